-- Writing the changed pages.
use Rattle.std.proofs.Common.{◌≡◌, ℕ, ◌≤◌, List, [], ◌∷◌, length, map, arith, ap, subst, All, Option}
use Rattle.std.proofs.lemmas.List.Elements.{All-head, All-tail}
use Rattle.spe_model.specs.Trace.{History}
use Rattle.spe_disk.specs.Told.{Adds}
use Rattle.spe_rewrite.specs.declared.change.Change.{Change}
use Rattle.spe_rewrite.specs.Changes.{Ascend}
use Rattle.spe_rewrite.specs.Rewrite.{putting}
use Rattle.spe_disk.specs.Added.{AddsCut}
use Rattle.spe_rewrite.proofs.LeftLemmas.{HasLeft, left_broken, left_next}

-- what is left ascends from some page
abbrev pub IsAscending : List Change → Type 0
IsAscending left = (below : ℕ) × Ascend below left

pub ascending_first : (left cs : List Change) (c : Change) → left ≡ c ∷ cs → IsAscending left → 1 ≤ c.page
ascending_first left cs c is a = let here : IsAscending (c ∷ cs) = subst IsAscending is a in omega (arith, here.1.0)

pub ascending_next : (left cs : List Change) (c : Change) → left ≡ c ∷ cs → IsAscending left → IsAscending cs
ascending_next left cs c is a = let here : IsAscending (c ∷ cs) = subst IsAscending is a in (c.page, here.1.1)

pub whole_first : (size : ℕ) (left cs : List Change) (c : Change) → left ≡ c ∷ cs → All (λ (d : Change). length d.bytes ≡ size) left → length c.bytes ≡ size
whole_first size left cs c is all = All-head (λ (d : Change). length d.bytes ≡ size) c cs (subst (All (λ (d : Change). length d.bytes ≡ size)) is all)

pub whole_next : (size : ℕ) (left cs : List Change) (c : Change) → left ≡ c ∷ cs → All (λ (d : Change). length d.bytes ≡ size) left → All (λ (d : Change). length d.bytes ≡ size) cs
whole_next size left cs c is all = All-tail (λ (d : Change). length d.bytes ≡ size) c cs (subst (All (λ (d : Change). length d.bytes ≡ size)) is all)

pub puts_turn : (size : ℕ) (first now next : Option History) (all left cs : List Change) (c : Change) → left ≡ c ∷ cs → Adds now next (putting size c ∷ [])
    → HasLeft first now (map (putting size) all) (map (putting size) left) → HasLeft first next (map (putting size) all) (map (putting size) cs)
puts_turn size first now next all left cs c is adds begun = left_next first now next _ _ (putting size c ∷ []) _ (ap (map (putting size)) is) adds begun

pub puts_broken : (size : ℕ) (first now next : Option History) (all left cs : List Change) (c : Change) → left ≡ c ∷ cs → AddsCut now next (putting size c ∷ [])
    → HasLeft first now (map (putting size) all) (map (putting size) left) → AddsCut first next (map (putting size) all)
puts_broken size first now next all left cs c is cut begun = left_broken first now next _ _ (putting size c ∷ []) (map (putting size) cs) (ap (map (putting size)) is) cut begun
