-- Lists of commits, as they grow.
use Rattle.std.proofs.Common.{◌≡◌, ℕ, ◌+◌, ◌<◌, ◌≤◌, List, [], ◌∷◌, ◌++◌, length, All, refl, sym, ap, ◌∙◌, arith, suc, subst, true, false, ⊎_elim}
use Rattle.std.specs.Prelude.{nat_le}
use Rattle.std.proofs.lemmas.Bool.{cases_Bool, cases_lt, le-leb}
use Rattle.std.proofs.lemmas.Bool.Decides.{nat_tests}
use Rattle.std.proofs.lemmas.List.{length-append, take-append-le, take_all}
use Rattle.std.proofs.lemmas.List.Elements.{All-cons, All-head, All-nil, All-push, All-tail}
use Rattle.spe_transactions.specs.Commits.{Commit, EachMeets, commits_within, laid_by, pages_after}
use Rattle.spe_transactions.specs.Growth.{AfterCommit}
use Rattle.spe_transactions.specs.Pages.{laid_pages}

-- the commits ended by then
abbrev pub EndedBy : ℕ → List Commit → Type 0
EndedBy ops commits = All (λ (c : Commit). c.ops ≤ ops) commits

pub few : (commits : List Commit) (whole : ℕ) → commits_within commits whole ≤ length commits
few [] whole = omega arith
few (c ∷ commits) whole = ⊎_elim
    (λ (is : nat_le c.ops whole ≡ true). rw is (let rest = few commits whole in omega arith))
    (λ (no_is : nat_le c.ops whole ≡ false). rw no_is (let rest = few commits whole in omega arith))
    (cases_Bool (nat_le c.ops whole))

pub all_within : (commits : List Commit) (whole : ℕ) → EndedBy whole commits → commits_within commits whole ≡ length commits
all_within [] whole all = refl
all_within (c ∷ commits) whole all =
    let is : nat_le c.ops whole ≡ true = le-leb c.ops whole (All-head (λ (x : Commit). x.ops ≤ whole) c commits all) in
    rw is (ap suc (all_within commits whole (All-tail (λ (x : Commit). x.ops ≤ whole) c commits all)))

pub one_later : (commits : List Commit) (whole : ℕ) (last : Commit) → whole < last.ops → commits_within (commits ++ last ∷ []) whole ≡ commits_within commits whole
one_later [] whole last later = let no_is : nat_le last.ops whole ≡ false = grind (arith, nat_tests) in rw no_is refl
one_later (c ∷ commits) whole last later = ⊎_elim
    (λ (is : nat_le c.ops whole ≡ true). rw is (ap suc (one_later commits whole last later)))
    (λ (no_is : nat_le c.ops whole ≡ false). rw no_is (one_later commits whole last later))
    (cases_Bool (nat_le c.ops whole))

pub longer : (commits : List Commit) (size more : ℕ) → size ≤ more → EndedBy size commits → EndedBy more commits
longer [] size more below all = All-nil (λ (c : Commit). c.ops ≤ more)
longer (c ∷ commits) size more below all =
    let first : c.ops ≤ size = All-head (λ (x : Commit). x.ops ≤ size) c commits all in
    All-cons (λ (x : Commit). x.ops ≤ more) c commits (omega arith) (longer commits size more below (All-tail (λ (x : Commit). x.ops ≤ size) c commits all))

pub one_more : (commits : List Commit) (size more : ℕ) (last : Commit) → size ≤ more → last.ops ≤ more → EndedBy size commits → EndedBy more (commits ++ last ∷ [])
one_more commits size more last below low all = All-push (λ (c : Commit). c.ops ≤ more) commits last (longer commits size more below all) low

laid_more : (pages : List (List ℕ)) (commits : List Commit) (last : Commit) → laid_by pages (commits ++ last ∷ []) ≡ laid_pages (laid_by pages commits) last.wrote
laid_more pages [] last = refl
laid_more pages (c ∷ commits) last = laid_more (laid_pages pages c.wrote) commits last

pub after_front : (opening : List (List ℕ)) (commits : List Commit) (last : Commit) (n : ℕ) → n ≤ length commits → pages_after opening (commits ++ last ∷ []) n ≡ pages_after opening commits n
after_front opening commits last n low = ap (laid_by opening) (take-append-le n commits (last ∷ []) low)

pub after_all : (opening : List (List ℕ)) (commits : List Commit) → pages_after opening commits (length commits) ≡ laid_by opening commits
after_all opening commits = ap (laid_by opening) (take_all (length commits) commits (omega arith))

pub after_last : (opening : List (List ℕ)) (commits : List Commit) (last : Commit) → pages_after opening (commits ++ last ∷ []) (length commits + 1) ≡ laid_pages (laid_by opening commits) last.wrote
after_last opening commits last =
    ap (laid_by opening) (take_all (length commits + 1) (commits ++ last ∷ []) (omega (arith, length-append commits (last ∷ []))))
    ∙ laid_more opening commits last

pub after_commit : AfterCommit
after_commit opening commits last = (after_front opening commits last, laid_more opening commits last)

-- what is said of the pages is also said of those after one commit more
pub meets_more : (Meets : ℕ → List (List ℕ) → Type 0) (opening : List (List ℕ)) (commits : List Commit) (last : Commit)
    → EachMeets Meets opening commits → Meets (length commits + 1) (laid_pages (laid_by opening commits) last.wrote) → EachMeets Meets opening (commits ++ last ∷ [])
meets_more Meets opening commits last m new = record {
  each = λ n low.
      ⊎_elim
      (λ (before : n < length commits + 1). subst (Meets n) (sym (after_front opening commits last n (omega arith))) (m.each n (omega arith)))
      (λ (at : length commits + 1 ≤ n).
      let one : n ≡ length commits + 1 = omega (arith, length-append commits (last ∷ [])) in
      subst (λ (i : ℕ). Meets i (pages_after opening (commits ++ last ∷ []) i)) (sym one) (subst (Meets (length commits + 1)) (sym (after_last opening commits last)) new))
      (cases_lt n (length commits + 1));
}
