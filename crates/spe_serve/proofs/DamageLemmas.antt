-- Why the rows of a table are damaged.
use Rattle.std.proofs.Common.{◌≡◌, ℕ, true, false, Bool, List, [], ◌∷◌, Some, Result, Ok, Err, refl, ◌∙◌, subst, inl, inr}
use Rattle.std.specs.List.{Contains, find}
use Rattle.spe_model.specs.declared.catalog.Entry.{Entry}
use Rattle.spe_model.specs.Database.{Row}
use Rattle.spe_space.specs.Calls.{Reads}
use Rattle.spe_space.specs.declared.pages.Pages.{Ghosts}
use Rattle.spe_space.specs.declared.fault.TreeFault.{TreeFault}
use Rattle.spe_space.specs.declared.fault.TreeFault.TheVariants.{Space, Corrupt}
use Rattle.spe_search.specs.declared.pairs.Pair.{Pair}
use Rattle.spe_search.specs.Found.{NamesDamage}
use Rattle.spe_search.specs.Leaves.{TellsLeaves}
use Rattle.spe_catalog.specs.Reader.{NamesSchema}
use Rattle.spe_serve.specs.declared.reply.Reply.{Reply}
use Rattle.spe_serve.specs.Row.{rows_stored}
use Rattle.spe_serve.specs.Space.{NamesRows, NamesTable, entry_named, is_named}
use Rattle.spe_serve.proofs.RowLemmas.{damaged_row}

-- a fault of the walk over the table's tree
pub walk_damage : {P : Type 0} (X : Type 0) (g : Ghosts P) (early late : P) (entry : Entry) (fault : TreeFault) → NamesDamage {X = X} g early late entry.root 20 (Err fault)
    → NamesRows {X = Reply} g early late entry (Err fault)
walk_damage X g early late entry (Space f) names pages agrees = tt
walk_damage X g early late entry (Corrupt at) names pages agrees = inr (names pages agrees)

-- a row that may not stand there
pub bad_record : {P : Type 0} (g : Ghosts P) (early late : P) (entry : Entry) (pairs read : List Pair) (found : Result (List Row) ℕ) (leaf : ℕ) → read ≡ pairs
    → found ≡ rows_stored entry.table read → found ≡ Err leaf → TellsLeaves g early late entry.root (Ok pairs) → NamesRows {X = Reply} g early late entry (Err (Corrupt leaf))
bad_record g early late entry pairs read found leaf same is damaged leaves pages agrees =
    let such = damaged_row entry.table read found leaf is damaged in
    inl
    (record {
      row = such.row;
      leaf_is = such.leaf_is;
      read = leaves pages agrees such.row (subst (λ (rows : List Pair). Contains rows such.row) same such.among);
      bad = such.bad;
    })

-- a fault of the catalog
pub catalog_damage : {P : Type 0} (X : Type 0) (g : Ghosts P) (early late : P) (name : List ℕ) (fault : TreeFault) → NamesSchema {X = X} g early late (Err fault)
    → NamesTable {X = Reply} g early late name (Err fault)
catalog_damage X g early late name (Space f) names pages agrees = tt
catalog_damage X g early late name (Corrupt at) names pages agrees = inl (names pages agrees)

found_true : (test : Entry → Bool) (es : List Entry) (entry : Entry) → Some entry ≡ find test es → test entry ≡ true
found_true test [] entry is = absurd cc
found_true test (e ∷ es) entry is = go (test e) refl (found_true test es entry)
  where
    go : (b : Bool) → test e ≡ b → (Some entry ≡ find test es → test entry ≡ true) → test entry ≡ true
    go true named later =
        let same : Some entry ≡ Some e = is ∙ rw named refl in
        let one : e ≡ entry = cc in
        subst (λ (x : Entry). test x ≡ true) one named
    go false other later = later (is ∙ rw other refl)

-- a fault of the rows of the table that the catalog names
pub entry_damage : {P : Type 0} (g : Ghosts P) (early mid late : P) (name : List ℕ) (catalog : List Entry) (entry : Entry) (result : Result Reply TreeFault) → Reads g early mid
    → Some entry ≡ entry_named name catalog → NamesRows g mid late entry result → NamesTable g early late name result
entry_damage g early mid late name catalog entry (Ok reply) kept is names pages agrees = tt
entry_damage g early mid late name catalog entry (Err (Space f)) kept is names pages agrees = tt
entry_damage g early mid late name catalog entry (Err (Corrupt at)) kept is names pages agrees =
    inr (entry, found_true (is_named name) catalog entry is, rw (kept.laid, kept.used) at (names pages agrees))
