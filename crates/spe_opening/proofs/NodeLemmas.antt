-- The node page of pages that stand for a database in server form.
use Rattle.std.proofs.Common.{◌≡◌, ◌≢◌, ℕ, ◌==◌, Bool, true, false, List, [], ◌∷◌, ◌++◌, All, Err, map, refl, sym, ◌∙◌, subst, arith}
use Rattle.std.specs.List.{flat_map, list_any}
use Rattle.std.proofs.lemmas.Bool.{false≢true}
use Rattle.std.proofs.lemmas.List.Elements.{All-head, All-tail}
use Rattle.spe_model.specs.Big.{u32_at}
use Rattle.spe_model.specs.Database.{Database}
use Rattle.spe_model.specs.FreeList.{first_trunks, is_list_count, names_node}
use Rattle.spe_model.specs.Paging.{Paging}
use Rattle.spe_model.specs.Standing.{FreeChain, IsServer, IsStock, Whether, all_pages, pages_of_some}
use Rattle.spe_space.specs.declared.fault.TreeFault.{TreeFault}
use Rattle.spe_space.specs.declared.fault.TreeFault.TheVariants.{Corrupt}
use Rattle.spe_space.specs.Found.{OnMissing, missing_weaker}
use Rattle.spe_space.specs.Outcome.{IsInside}
use Rattle.spe_freelist.specs.Node.{IsReadOf, is_node}
use Rattle.spe_opening.specs.Shared.{StandsPrepared}
use Rattle.spe_opening.proofs.ListLemmas.{all_behind}

in_true : (b : Bool) (A B : Type 0) → b ≡ true → Whether b A B → A
in_true true A B is x = x
in_true false A B is x = absurd (false≢true is)

-- the free lists are in server form
pub server : (usable count node : ℕ) (pages : Paging) (db : Database) (p : StandsPrepared usable count node pages db) → IsServer usable pages p.stands.lists p.stands.listed
server usable count node pages db p =
    in_true (names_node (pages 1)) (IsServer usable pages p.stands.lists p.stands.listed) (IsStock usable pages p.stands.lists p.stands.listed) p.prepared.0 p.stands.free

not_zero : (n : ℕ) → n ≢ 0 → (n == 0) ≡ false
not_zero n other = grind (arith, other)

no_zero : (lists : List FreeChain) → All (λ (f : FreeChain). f.first ≢ 0) lists → list_any (λ (trunk : ℕ). trunk == 0) (map (λ (f : FreeChain). f.first) lists) ≡ false
no_zero [] all = refl
no_zero (f ∷ fs) all =
    rw (not_zero f.first (All-head (λ (x : FreeChain). x.first ≢ 0) f fs all), no_zero fs (All-tail (λ (x : FreeChain). x.first ≢ 0) f fs all)) refl

-- the page that page 1 names is a node page
pub node_legal : (usable count node : ℕ) (pages : Paging) (db : Database) → StandsPrepared usable count node pages db → is_node (pages node) ≡ true
node_legal usable count node pages db p =
    let s = server usable count node pages db p in
    let here : s.node ≡ node = s.node_is ∙ sym p.named in
    let counted : is_list_count (u32_at (pages node) 0) ≡ true = rw p.named p.prepared.1 in
    let none : list_any (λ (trunk : ℕ). trunk == 0) (first_trunks pages s.node) ≡ false = subst (λ (ts : List ℕ). list_any (λ (trunk : ℕ). trunk == 0) ts ≡ false) s.firsts (no_zero p.stands.lists s.started) in
    let own : list_any (λ (trunk : ℕ). trunk == 0) (first_trunks pages node) ≡ false = subst (λ (n : ℕ). list_any (λ (trunk : ℕ). trunk == 0) (first_trunks pages n) ≡ false) here none in
    rw (counted, own) refl

-- and one of so many pages
pub node_inside : (usable count node : ℕ) (pages : Paging) (db : Database) → StandsPrepared usable count node pages db → IsInside count node
node_inside usable count node pages db p =
    let s = server usable count node pages db p in
    let trees = all_pages usable pages p.stands.height 1 ++ flat_map (pages_of_some usable pages) p.stands.trees in
    let listed : All (IsInside count) p.stands.listed = all_behind (IsInside count) trees p.stands.listed p.stands.within in
    let first : IsInside count s.node = All-head (IsInside count) s.node _ (subst (All (IsInside count)) s.pages_are listed) in
    subst (IsInside count) (s.node_is ∙ sym p.named) first

-- so it is never called damaged
pub node_whole : (usable count node : ℕ) (pages : Paging) (db : Database) (at : ℕ) → StandsPrepared usable count node pages db → IsReadOf pages node (Err (Corrupt at)) → ⊥
node_whole usable count node pages db at p is = false≢true (sym is.1 ∙ node_legal usable count node pages db p)

pub node_asks : (usable count node : ℕ) (pages : Paging) (db : Database) (fault : TreeFault) → StandsPrepared usable count node pages db → OnMissing (λ at. at ≡ node) fault
    → OnMissing (IsInside count) fault
node_asks usable count node pages db fault p missing =
    missing_weaker (λ at. at ≡ node) (IsInside count) fault (λ n same. subst (IsInside count) (sym same) (node_inside usable count node pages db p)) missing
