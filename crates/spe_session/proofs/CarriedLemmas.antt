-- The statements of a transaction, one more at a time.
use Rattle.std.proofs.Common.{◌≡◌, ◌+◌, ◌-◌, ◌<◌, ◌≤◌, ◌∙◌, List, [], ◌∷◌, ◌++◌, length, take, drop, None, Ok, refl, sym, ap, subst, arith, append_assoc}
use Rattle.std.proofs.lemmas.List.{length-append, take_all}
use Rattle.std.specs.Prelude.{slice_index_or}
use Rattle.spe_model.specs.declared.catalog.Entry.{Entry}
use Rattle.spe_model.specs.declared.reply.Reply.{Reply}
use Rattle.spe_model.specs.declared.statement.Statement.{Statement}
use Rattle.spe_model.specs.declared.transaction.TxKind.{TxKind}
use Rattle.spe_space.specs.declared.pages.Pages.{Ghosts}
use Rattle.spe_space.specs.Calls.{Keeps}
use Rattle.spe_served.specs.Lists.{ListsStand}
use Rattle.spe_exec.specs.Justifying.{JustifiedIn, JustifiedRun}
use Rattle.spe_exec.specs.Writes.{DoesMeaning}
use Rattle.spe_session.specs.Carried.{AreLeft, IsFront, WhereBegun}

pub keeps_same : {P : Type 0} (g : Ghosts P) (a : P) → Keeps g a a
keeps_same g a = record {
  earlier = λ pages agrees. agrees;
  told = refl;
  size = refl;
  used = refl;
  limit = refl;
  sealed = refl;
  count = omega arith;
}

pub keeps_both : {P : Type 0} (g : Ghosts P) (a b c : P) → Keeps g a b → Keeps g b c → Keeps g a c
keeps_both g a b c x y = record {
  earlier = λ pages agrees. x.earlier pages (y.earlier pages agrees);
  told = y.told ∙ x.told;
  size = y.size ∙ x.size;
  used = y.used ∙ x.used;
  limit = y.limit ∙ x.limit;
  sealed = y.sealed ∙ x.sealed;
  count = omega (arith, x.count, y.count);
}

-- in the loop over the statements: what was done up to here
pub record Going {P : Type 0} (g : Ghosts P) (old s : P) (catalog : List Entry) (kind : TxKind) (statements left : List Statement) (replies : List Reply) : Type 0 where
  pub none : g.refusal s ≡ None
  pub kept : Keeps g old s
  pub counted : length replies + length left ≡ length statements
  pub done : WhereBegun g old catalog kind (λ opening. AreLeft g opening kind statements left replies s)

pub begin : {P : Type 0} (g : Ghosts P) (s : P) (catalog : List Entry) (kind : TxKind) (statements : List Statement) (replies : List Reply)
    → g.refusal s ≡ None → replies ≡ [] → Going g s s catalog kind statements statements replies
begin g s catalog kind statements replies none empty = record {
  none = none;
  kept = keeps_same g s;
  counted = let none : length replies ≡ 0 = ap (λ (rs : List Reply). length rs) empty in omega (arith, none);
  done = λ opening same begun. record {
    done = [];
    split = refl;
    right = subst (λ (rs : List Reply). JustifiedIn g opening (record { kind = kind; statements = []; replies = rs }) s) (sym empty) begun;
  };
}

-- one statement more
pub more : {P : Type 0} (g : Ghosts P) (old early late : P) (catalog : List Entry) (kind : TxKind) (statements left rest : List Statement) (s : Statement) (replies new : List Reply) (reply : Reply)
    → ListsStand g → JustifiedRun g → left ≡ s ∷ rest → new ≡ replies ++ reply ∷ [] → g.refusal late ≡ g.refusal early → Keeps g early late
    → DoesMeaning g early late catalog kind s (Ok reply) → Going g old early catalog kind statements left replies → Going g old late catalog kind statements rest new
more g old early late catalog kind statements left rest s replies new reply lists law is grown same kept means going =
    let long : length new ≡ length replies + 1 = ap (λ (rs : List Reply). length rs) grown ∙ length-append replies (reply ∷ []) in
    let count : length left ≡ length (s ∷ rest) = ap (λ (ss : List Statement). length ss) is in
    record {
      none = same ∙ going.none;
      kept = keeps_both g old early late going.kept kept;
      counted = omega (arith, long, count, going.counted);
      done = λ opening one begun.
          let was = going.done opening one begun in
          record {
            done = was.done ++ s ∷ [];
            split = was.split ∙ ap (λ (ss : List Statement). was.done ++ ss) is ∙ sym (append_assoc was.done (s ∷ []) rest);
            right = subst (λ (rs : List Reply). JustifiedIn g opening (record { kind = kind; statements = was.done ++ s ∷ []; replies = rs }) late) (sym grown)
                (law opening (record { kind = kind; statements = was.done; replies = replies }) early late s reply lists was.right
                (subst (λ (c : List Entry). DoesMeaning g early late c kind s (Ok reply)) (sym one) means) kept);
          };
    }

-- up to here the replies are right, whatever a later call was given
pub front : {P : Type 0} (g : Ghosts P) (old early late : P) (catalog : List Entry) (kind : TxKind) (statements left : List Statement) (replies : List Reply)
    → Keeps g early late → Going g old early catalog kind statements left replies → WhereBegun g old catalog kind (λ opening. IsFront g opening kind statements replies late)
front g old early late catalog kind statements left replies kept going opening one begun =
    let was = going.done opening one begun in
    record {
      done = was.done;
      left = left;
      split = was.split;
      replied = λ count pages db since agrees. was.right.replied count pages db since (kept.earlier pages agrees);
    }

append-none : {A : Type 0} (xs : List A) → xs ++ [] ≡ xs
append-none [] = refl
append-none (x ∷ xs) = ap (λ ys. x ∷ ys) (append-none xs)

-- all was carried out
pub end : {P : Type 0} (g : Ghosts P) (old s : P) (catalog : List Entry) (kind : TxKind) (statements left : List Statement) (replies : List Reply)
    → left ≡ [] → Going g old s catalog kind statements left replies
    → WhereBegun g old catalog kind (λ opening. JustifiedIn g opening (record { kind = kind; statements = statements; replies = replies }) s)
end g old s catalog kind statements left replies none going opening one begun =
    let was = going.done opening one begun in
    subst (λ (ss : List Statement). JustifiedIn g opening (record { kind = kind; statements = ss; replies = replies }) s)
    (sym (was.split ∙ ap (λ (ss : List Statement). was.done ++ ss) none ∙ append-none was.done)) was.right

-- a statement was left
pub short : {P : Type 0} (g : Ghosts P) (old s : P) (catalog : List Entry) (kind : TxKind) (statements left : List Statement) (replies : List Reply)
    → 1 ≤ length left → Going g old s catalog kind statements left replies → length replies < length statements
short g old s catalog kind statements left replies some going = omega (arith, some, going.counted)

-- the first is cut off
pub first_is : {A : Type 0} (left : List A) (x : A) (rest : List A) → 1 ≤ length left → x ≡ slice_index_or left 0 x → rest ≡ take (length left - 1) (drop 1 left) → left ≡ x ∷ rest
first_is [] x rest some at cut = absurd (omega (arith, some))
first_is (y ∷ ys) x rest some at cut =
    let all : take (length (y ∷ ys) - 1) ys ≡ ys = take_all (length (y ∷ ys) - 1) ys (omega arith) in
    ap (λ z. z ∷ ys) (sym at) ∙ ap (λ zs. x ∷ zs) (sym (cut ∙ all))
