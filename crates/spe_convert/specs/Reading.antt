-- Free lists as they are read from the file of a database.
use Rattle.std.specs.Prelude.{◌≡◌, ℕ, zero, suc, ◌+◌, ◌-◌, ◌*◌, ◌≤◌, ◌==◌, ◌&&◌, nat_lt, nat_le, Bool, true, false, List, [], ◌∷◌, ◌++◌, Option, Some, None, Result, Ok, Err, IfErr, if◌then◌else◌}
use Rattle.std.specs.Option.{option_map}
use Rattle.spe_model.specs.declared.file.FileNo.TheVariants.{Database}
use Rattle.spe_model.specs.declared.recovery.Recovered.{Recovered}
use Rattle.spe_model.specs.Content.{Content, bytes_of, filled}
use Rattle.spe_model.specs.Faults.{Rose}
use Rattle.spe_model.specs.Big.{u32_at}
use Rattle.spe_model.specs.FreeList.{first_trunks, has_room, is_list_count, leaves_of, names_node, next_trunk}
use Rattle.spe_model.specs.Paging.{Paging}
use Rattle.spe_model.specs.Standing.{IsOneOf}
use Rattle.spe_model.specs.Trace.{History, present}
use Rattle.spe_model.specs.Walk.{is_one_of}
use Rattle.spe_convert.specs.declared.fault.ConvertFault.{ConvertFault}
use Rattle.spe_convert.specs.declared.fault.ConvertFault.TheVariants.{Corrupt, Disk, Full, Memory, Prepared}

-- the file has these pages, where they are among those that were found
abbrev pub Holds : Recovered → Content → Paging → Type 0
Holds found content pages = (n : ℕ) → IsOneOf found.pages n → filled (bytes_of content Database) ((n - 1) * found.page_size) found.page_size ≡ pages n

-- P of all pages that the file has, where the disk tells it
abbrev pub WhereHeld : Option History → Recovered → (Paging → Type 0) → Type 0
WhereHeld None found P = Unit {0}
WhereHeld (Some h) found P = (pages : Paging) → Holds found (present h) pages → P pages

abbrev pub usable_of : Recovered → ℕ
usable_of found = found.page_size - found.reserved

-- a trunk is one of the pages, and has room for its leaves
abbrev pub is_right : (usable count : ℕ) → Paging → ℕ → Bool
is_right usable count pages trunk = is_one_of count trunk && has_room usable pages trunk

-- the pages of a chain of trunks, or none where one of them is not right, or there are more than so many
abbrev pub found_trunks : (usable count : ℕ) → Paging → (most trunk : ℕ) → Option (List ℕ)
found_trunks usable count pages zero trunk = if trunk == 0 then Some [] else None
found_trunks usable count pages (suc most) trunk =
    if trunk == 0 then Some []
    else (if is_right usable count pages trunk
    then option_map (λ (ps : List ℕ). trunk ∷ leaves_of pages trunk ++ ps) (found_trunks usable count pages most (next_trunk pages trunk))
    else None)

-- why a reading call fails
abbrev pub IsReading : (before now : ℕ) → ConvertFault → Type 0
IsReading before now Disk = Rose before now
IsReading before now (Full pages) = ⊥
IsReading before now Prepared = ⊥
IsReading before now _ = Unit {0}

-- why a call fails that reads pages and finds no fault with them
abbrev pub IsPlain : (before now : ℕ) → ConvertFault → Type 0
IsPlain before now Disk = Rose before now
IsPlain before now Memory = Unit {0}
IsPlain before now _ = ⊥

-- a count of faults never falls, and has risen where the disk failed
pub record HasReading {T : Type 0} (before now : ℕ) (result : Result T ConvertFault) : Type 0 where
  pub later : before ≤ now
  pub failed : IfErr result (IsReading before now)

-- the same, where no fault is found with the pages
pub record HasPlainReading {T : Type 0} (before now : ℕ) (result : Result T ConvertFault) : Type 0 where
  pub later : before ≤ now
  pub failed : IfErr result (IsPlain before now)

-- one trunk is read, and what was read before is kept
abbrev pub ReadsTrunk : (usable count : ℕ) → (trunk : ℕ) → (before after : List ℕ) → Result ℕ ConvertFault → Paging → Type 0
ReadsTrunk usable count trunk before after (Ok next) pages =
    (is_right usable count pages trunk ≡ true) × (next ≡ next_trunk pages trunk) × (after ≡ before ++ trunk ∷ leaves_of pages trunk)
ReadsTrunk usable count trunk before after (Err (Corrupt page)) pages = is_right usable count pages trunk ≡ false
ReadsTrunk usable count trunk before after (Err fault) pages = Unit {0}

-- What was read is kept behind what was there before; damage is where there is none.
abbrev pub ReadsInto : {T : Type 0} → (before after : List ℕ) → Result T ConvertFault → Option (List ℕ) → Type 0
ReadsInto before after (Ok x) found = option_map (λ (ps : List ℕ). before ++ ps) found ≡ Some after
ReadsInto before after (Err (Corrupt page)) found = found ≡ None
ReadsInto before after (Err fault) found = Unit {0}

-- a chain of trunks is read
abbrev pub ReadsTrunks : (usable count most first : ℕ) → (before after : List ℕ) → Result (Unit {0}) ConvertFault → Paging → Type 0
ReadsTrunks usable count most first before after result pages = ReadsInto before after result (found_trunks usable count pages most first)

-- pages and then others, where there are both
abbrev pub joined : Option (List ℕ) → Option (List ℕ) → Option (List ℕ)
joined None others = None
joined (Some pages) others = option_map (λ (ps : List ℕ). pages ++ ps) others

-- the pages of some lists, by their first trunks
abbrev pub found_lists : (usable count : ℕ) → Paging → List ℕ → Option (List ℕ)
found_lists usable count pages [] = Some []
found_lists usable count pages (f ∷ fs) =
    if f == 0 then None else joined (found_trunks usable count pages (count + 1) f) (found_lists usable count pages fs)

-- a node page, and the pages of the lists that it names
abbrev pub found_node : (usable count : ℕ) → Paging → (node : ℕ) → Option (List ℕ)
found_node usable count pages node =
    if is_one_of count node && is_list_count (u32_at (pages node) 0)
    then option_map (λ (ps : List ℕ). node ∷ ps) (found_lists usable count pages (first_trunks pages node))
    else None

-- all free pages, the node page among them
abbrev pub found_free : (usable count : ℕ) → Paging → Option (List ℕ)
found_free usable count pages =
    if names_node (pages 1) then found_node usable count pages (u32_at (pages 1) 32)
    else found_trunks usable count pages (count + 1) (u32_at (pages 1) 32)

-- numbers ascend from above a bound, and none is above another
abbrev pub are_ascending : (below most : ℕ) → List ℕ → Bool
are_ascending below most [] = true
are_ascending below most (n ∷ ns) = (nat_lt below n && nat_le n most) && are_ascending n most ns
