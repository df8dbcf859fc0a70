-- Walking along chains of overflow pages.
use Rattle.std.specs.Prelude.{◌≡◌, ℕ, ◌==◌, not, Bool, List, [], ◌∷◌, ◌++◌, take, drop, Result, IfOk, OnOk, if◌then◌else◌}
use Rattle.spe_model.specs.Paging.{Paging}
use Rattle.spe_model.specs.Chain.{links, links_bytes, chain_bytes, next_page}
use Rattle.spe_model.specs.Walk.{Mark, Names, Keeps, chain_marks}
use Rattle.spe_space.specs.declared.pages.Pages.{Ghosts}
use Rattle.spe_check.specs.declared.met.Met.{Met}
use Rattle.spe_check.specs.declared.halt.Halt.{Halt}
use Rattle.spe_check.specs.MetPages.{has_met}
use Rattle.spe_check.specs.Shown.{Each}
use Rattle.spe_check.specs.Tries.{Leads, Tries}

-- bytes that are kept behind others, where they are wanted
abbrev pub kept_of : Bool → List ℕ → List ℕ → List ℕ
kept_of wanted old bytes = if wanted then old ++ bytes else old

-- a page has to follow, and is met
abbrev pub link_marks : (holder page : ℕ) → List Mark
link_marks holder page = Keeps holder 7 (not (page == 0)) ∷ Names holder page ∷ []

abbrev pub TriesLink : {P : Type 0} (g : Ghosts P) (late : P) (before after : Met) (holder page here : ℕ) (wanted : Bool) (old new : List ℕ) → Result ℕ Halt → Type 0
TriesLink g late before after holder page here wanted old new result =
    Each g late (λ usable pages. Tries before.pages (has_met before) (has_met after) (link_marks holder page) result
    × IfOk result (λ next. (next ≡ next_page pages page) × (new ≡ kept_of wanted old (take here (drop 4 (pages page))))))

abbrev pub TriesChain : {P X : Type 0} (g : Ghosts P) (late : P) (before after : Met) (holder first left : ℕ) (wanted : Bool) (old new : List ℕ) → Result X Halt → Type 0
TriesChain g late before after holder first left wanted old new result =
    Each g late (λ usable pages. Tries before.pages (has_met before) (has_met after) (chain_marks pages (links usable left) holder first) result
    × OnOk result (new ≡ kept_of wanted old (chain_bytes usable pages left first)))

-- in the loop: what was tried and kept, and what is left
pub record IsAlong (usable : ℕ) (pages : Paging) (before now : Met) (holder first bytes : ℕ) (wanted : Bool) (old new : List ℕ) (at page left : ℕ) : Type 0 where
  pub tried : Leads before.pages (has_met before) (chain_marks pages (links usable bytes) holder first) (has_met now) (chain_marks pages (links usable left) at page)
  pub kept : kept_of wanted new (links_bytes usable pages (links usable left) left page) ≡ kept_of wanted old (chain_bytes usable pages bytes first)
