-- Free lists that are read.
use Rattle.std.proofs.Common.{◌≡◌, ◌≢◌, ℕ, zero, suc, ◌+◌, ◌-◌, ◌*◌, ◌/◌, ◌<◌, ◌≤◌, List, [], ◌∷◌, ◌++◌, map, subst, ◌∙◌, refl, sym, ap, arith, append_assoc, true, false, Bool, Option, Some, None, Ok, Err, append-nil}
use Rattle.std.specs.Prelude.{◌&&◌, Result, get_or, length, take, drop, unwrap_or, nat_le}
use Rattle.std.specs.Option.{option_map}
use Rattle.std.proofs.lemmas.Bool.{ne_eqb}
use Rattle.std.proofs.lemmas.List.{take_all}
use Rattle.spe_model.specs.FreeList.{first_trunks, is_list_count, leaves_of, names_node, next_trunk}
use Rattle.spe_model.specs.Journal.{numbers_from}
use Rattle.spe_model.specs.Paging.{Paging}
use Rattle.spe_convert.specs.Reading.{ReadsInto, ReadsTrunk, ReadsTrunks, WhereHeld, found_free, found_lists, found_node, found_trunks, is_right, joined}
use Rattle.spe_convert.specs.declared.fault.ConvertFault.{ConvertFault}
use Rattle.spe_convert.specs.declared.fault.ConvertFault.TheVariants.{Corrupt, Disk, Full, Memory, Prepared}
use Rattle.spe_model.specs.declared.recovery.Recovered.{Recovered}
use Rattle.spe_model.specs.Trace.{History}
use Rattle.spe_model.specs.Big.{u32_at}
use Rattle.spe_model.specs.Walk.{is_one_of}

-- one more number is read
pub numbers_more : (f : ℕ → ℕ) (done all : List ℕ) (i count : ℕ) → i < count
    → done ++ map f (numbers_from i (count - i)) ≡ all
    → (done ++ f i ∷ []) ++ map f (numbers_from (i + 1) (count - (i + 1))) ≡ all
numbers_more f done all i count below kept =
    let one : count - i ≡ suc (count - (i + 1)) = omega (arith, below) in
    let P : ℕ → Type 0 = λ m. done ++ map f (numbers_from i m) ≡ all in
    append_assoc done (f i ∷ []) (map f (numbers_from (i + 1) (count - (i + 1)))) ∙ subst P one kept

-- what was read and what is left
abbrev pub with_left : (usable count : ℕ) → Paging → (done : List ℕ) → (most trunk : ℕ) → Option (List ℕ)
with_left usable count pages done most trunk = option_map (λ (ps : List ℕ). done ++ ps) (found_trunks usable count pages most trunk)

pub where_map : (told : Option History) (found : Recovered) (P Q : Paging → Type 0) → ((pages : Paging) → P pages → Q pages) → WhereHeld told found P → WhereHeld told found Q
where_map None found P Q gives p = tt
where_map (Some h) found P Q gives p = λ pages holds. gives pages (p pages holds)

pub where_both : (told : Option History) (found : Recovered) (P Q R : Paging → Type 0) → ((pages : Paging) → P pages → Q pages → R pages)
    → WhereHeld told found P → WhereHeld told found Q → WhereHeld told found R
where_both None found P Q R gives p q = tt
where_both (Some h) found P Q R gives p q = λ pages holds. gives pages (p pages holds) (q pages holds)

pub trunk_read : (usable count trunk leaves next : ℕ) (before mid after buf : List ℕ) (pages : Paging) → is_one_of count trunk ≡ true → leaves ≡ u32_at buf 4
    → nat_le leaves (usable / 4 - 2) ≡ true → mid ≡ before ++ trunk ∷ [] → after ≡ mid ++ map (λ i. u32_at buf (8 + 4 * i)) (numbers_from 0 leaves) → next ≡ u32_at buf 0
    → buf ≡ pages trunk → ReadsTrunk usable count trunk before after (Ok next) pages
trunk_read usable count trunk leaves next before mid after buf pages one leaves_are few mid_is after_is next_is is =
    let number : leaves ≡ u32_at (pages trunk) 4 = leaves_are ∙ ap (λ (b : List ℕ). u32_at b 4) is in (
      rw (one, sym number, few) refl,
      next_is ∙ ap (λ (b : List ℕ). u32_at b 0) is,
      after_is ∙ ap (λ (m : List ℕ). m ++ map (λ i. u32_at buf (8 + 4 * i)) (numbers_from 0 leaves)) mid_is
          ∙ append_assoc before (trunk ∷ []) (map (λ i. u32_at buf (8 + 4 * i)) (numbers_from 0 leaves))
          ∙ ap (λ (b : List ℕ). before ++ trunk ∷ map (λ i. u32_at b (8 + 4 * i)) (numbers_from 0 leaves)) is
          ∙ ap (λ (n : ℕ). before ++ trunk ∷ map (λ i. u32_at (pages trunk) (8 + 4 * i)) (numbers_from 0 n)) number,
    )

map_none : (f : List ℕ → List ℕ) (o : Option (List ℕ)) → option_map f o ≡ None → o ≡ None
map_none f None is = refl
map_none f (Some x) is = absurd cc

found_right : (usable count : ℕ) (pages : Paging) (most trunk : ℕ) → trunk ≢ 0 → 0 < most → is_right usable count pages trunk ≡ true
    → found_trunks usable count pages most trunk ≡ option_map (λ (ps : List ℕ). trunk ∷ leaves_of pages trunk ++ ps) (found_trunks usable count pages (most - 1) (next_trunk pages trunk))
found_right usable count pages zero trunk other more right = absurd (omega (arith, more))
found_right usable count pages (suc most) trunk other more right =
    let one : suc most - 1 ≡ most = omega arith in rw (ne_eqb trunk 0 other, right, one) refl

found_wrong : (usable count : ℕ) (pages : Paging) (most trunk : ℕ) → trunk ≢ 0 → 0 < most → is_right usable count pages trunk ≡ false
    → found_trunks usable count pages most trunk ≡ None
found_wrong usable count pages zero trunk other more right = absurd (omega (arith, more))
found_wrong usable count pages (suc most) trunk other more right = rw (ne_eqb trunk 0 other, right) refl

pub found_last : (usable count : ℕ) (pages : Paging) (most : ℕ) → found_trunks usable count pages most 0 ≡ Some []
found_last usable count pages zero = refl
found_last usable count pages (suc most) = refl

pub trunks_err : (usable count most trunk first : ℕ) (before done after : List ℕ) (fault : ConvertFault) (pages : Paging) → trunk ≢ 0 → 0 < most
    → with_left usable count pages done most trunk ≡ with_left usable count pages before (count + 1) first
    → ReadsTrunk usable count trunk done after (Err fault) pages → ReadsTrunks usable count (count + 1) first before after (Err fault) pages
trunks_err usable count most trunk first before done after (Corrupt page) pages other more kept wrong =
    map_none (λ (ps : List ℕ). before ++ ps) (found_trunks usable count pages (count + 1) first)
    (sym kept ∙ ap (option_map (λ (ps : List ℕ). done ++ ps)) (found_wrong usable count pages most trunk other more wrong))
trunks_err usable count most trunk first before done after Disk pages other more kept wrong = tt
trunks_err usable count most trunk first before done after (Full n) pages other more kept wrong = tt
trunks_err usable count most trunk first before done after Prepared pages other more kept wrong = tt
trunks_err usable count most trunk first before done after Memory pages other more kept wrong = tt

map_twice : (done : List ℕ) (trunk : ℕ) (leaves : List ℕ) (o : Option (List ℕ))
    → option_map (λ (ps : List ℕ). done ++ ps) (option_map (λ (ps : List ℕ). trunk ∷ leaves ++ ps) o) ≡ option_map (λ (ps : List ℕ). (done ++ trunk ∷ leaves) ++ ps) o
map_twice done trunk leaves None = refl
map_twice done trunk leaves (Some ps) = ap Some (sym (append_assoc done (trunk ∷ leaves) ps))

pub trunks_turn : (usable count most trunk first next : ℕ) (before done after : List ℕ) (pages : Paging) → trunk ≢ 0 → 0 < most
    → with_left usable count pages done most trunk ≡ with_left usable count pages before (count + 1) first
    → ReadsTrunk usable count trunk done after (Ok next) pages
    → with_left usable count pages after (most - 1) next ≡ with_left usable count pages before (count + 1) first
trunks_turn usable count most trunk first next before done after pages other more kept read =
    ap (λ (xs : List ℕ). with_left usable count pages xs (most - 1) next) read.2
    ∙ ap (λ (n : ℕ). with_left usable count pages (done ++ trunk ∷ leaves_of pages trunk) (most - 1) n) read.1
    ∙ sym (map_twice done trunk (leaves_of pages trunk) (found_trunks usable count pages (most - 1) (next_trunk pages trunk)))
    ∙ ap (option_map (λ (ps : List ℕ). done ++ ps)) (sym (found_right usable count pages most trunk other more read.0)) ∙ kept

pub trunks_end : (usable count most trunk first : ℕ) (before done : List ℕ) (pages : Paging) → trunk ≡ 0
    → with_left usable count pages done most trunk ≡ with_left usable count pages before (count + 1) first
    → ReadsTrunks usable count (count + 1) first before done (Ok tt) pages
trunks_end usable count most trunk first before done pages none kept =
    sym kept ∙ ap (with_left usable count pages done most) none ∙ ap (option_map (λ (ps : List ℕ). done ++ ps)) (found_last usable count pages most) ∙ ap Some (append-nil done)

abbrev pub lists_left : (usable count : ℕ) → Paging → (done left : List ℕ) → Option (List ℕ)
lists_left usable count pages done left = option_map (λ (ps : List ℕ). done ++ ps) (found_lists usable count pages left)

joined_map : (done after : List ℕ) (a b : Option (List ℕ)) → option_map (λ (ps : List ℕ). done ++ ps) a ≡ Some after
    → option_map (λ (ps : List ℕ). done ++ ps) (joined a b) ≡ option_map (λ (ps : List ℕ). after ++ ps) b
joined_map done after None b is = absurd cc
joined_map done after (Some xs) None is = refl
joined_map done after (Some xs) (Some ys) is =
    let same : done ++ xs ≡ after = ap (λ (o : Option (List ℕ)). unwrap_or o []) is in
    ap Some (sym (append_assoc done xs ys) ∙ ap (λ (zs : List ℕ). zs ++ ys) same)

pub lists_turn : (usable count : ℕ) (pages : Paging) (left free after start firsts : List ℕ) → 1 ≤ length left → get_or left 0 0 ≢ 0
    → lists_left usable count pages free left ≡ lists_left usable count pages start firsts
    → option_map (λ (ps : List ℕ). free ++ ps) (found_trunks usable count pages (count + 1) (get_or left 0 0)) ≡ Some after
    → lists_left usable count pages after (take (length left - 1) (drop 1 left)) ≡ lists_left usable count pages start firsts
lists_turn usable count pages [] free after start firsts some other kept read = absurd (omega (arith, some))
lists_turn usable count pages (f ∷ fs) free after start firsts some other kept read =
    let whole : take (length (f ∷ fs) - 1) fs ≡ fs = take_all (length (f ∷ fs) - 1) fs (omega arith) in
    let next : found_lists usable count pages (f ∷ fs) ≡ joined (found_trunks usable count pages (count + 1) f) (found_lists usable count pages fs) = rw (ne_eqb f 0 other) refl in
    ap (λ (zs : List ℕ). lists_left usable count pages after zs) whole
    ∙ sym (joined_map free after (found_trunks usable count pages (count + 1) f) (found_lists usable count pages fs) read)
    ∙ ap (option_map (λ (ps : List ℕ). free ++ ps)) (sym next) ∙ kept

pub lists_err : (usable count : ℕ) (pages : Paging) (left free after start firsts : List ℕ) (fault : ConvertFault) → 1 ≤ length left → get_or left 0 0 ≢ 0
    → lists_left usable count pages free left ≡ lists_left usable count pages start firsts
    → ReadsInto {T = Unit {0}} free after (Err fault) (found_trunks usable count pages (count + 1) (get_or left 0 0))
    → ReadsInto {T = Unit {0}} start after (Err fault) (found_lists usable count pages firsts)
lists_err usable count pages [] free after start firsts fault some other kept read = absurd (omega (arith, some))
lists_err usable count pages (f ∷ fs) free after start firsts (Corrupt page) some other kept read =
    let next : found_lists usable count pages (f ∷ fs) ≡ None = rw (ne_eqb f 0 other, read) refl in
    map_none (λ (ps : List ℕ). start ++ ps) (found_lists usable count pages firsts) (sym kept ∙ ap (option_map (λ (ps : List ℕ). free ++ ps)) next)
lists_err usable count pages (f ∷ fs) free after start firsts Disk some other kept read = tt
lists_err usable count pages (f ∷ fs) free after start firsts (Full n) some other kept read = tt
lists_err usable count pages (f ∷ fs) free after start firsts Prepared some other kept read = tt
lists_err usable count pages (f ∷ fs) free after start firsts Memory some other kept read = tt

-- a node page is read, and then its lists
pub node_wrong : (usable count node number : ℕ) (buf before after : List ℕ) (pages : Paging) → number ≡ u32_at buf 0 → is_list_count number ≡ false → buf ≡ pages node
    → found_node usable count pages node ≡ None
node_wrong usable count node number buf before after pages number_is wrong is =
    let none : is_list_count (u32_at (pages node) 0) ≡ false = ap (λ (b : List ℕ). is_list_count (u32_at b 0)) (sym is) ∙ ap is_list_count (sym number_is) ∙ wrong in
    rw (none, and_false (is_one_of count node)) refl
  where
    and_false : (b : Bool) → (b && false) ≡ false
    and_false true = refl
    and_false false = refl

cons_map : (before mid : List ℕ) (node : ℕ) (o : Option (List ℕ)) → mid ≡ before ++ node ∷ []
    → option_map (λ (ps : List ℕ). before ++ ps) (option_map (λ (ps : List ℕ). node ∷ ps) o) ≡ option_map (λ (ps : List ℕ). mid ++ ps) o
cons_map before mid node None is = refl
cons_map before mid node (Some ps) is = ap Some (sym (append_assoc before (node ∷ []) ps) ∙ ap (λ (zs : List ℕ). zs ++ ps) (sym is))

into_node : (node : ℕ) (before mid after : List ℕ) (result : Result (Unit {0}) ConvertFault) (o : Option (List ℕ)) → mid ≡ before ++ node ∷ []
    → ReadsInto mid after result o → ReadsInto before after result (option_map (λ (ps : List ℕ). node ∷ ps) o)
into_node node before mid after (Ok x) o is read = cons_map before mid node o is ∙ read
into_node node before mid after (Err (Corrupt page)) o is read = ap (option_map (λ (ps : List ℕ). node ∷ ps)) read
into_node node before mid after (Err Disk) o is read = tt
into_node node before mid after (Err (Full n)) o is read = tt
into_node node before mid after (Err Prepared) o is read = tt
into_node node before mid after (Err Memory) o is read = tt

pub node_read : (usable count node number : ℕ) (buf before mid after firsts : List ℕ) (result : Result (Unit {0}) ConvertFault) (pages : Paging)
    → is_one_of count node ≡ true → number ≡ u32_at buf 0 → is_list_count number ≡ true → firsts ≡ map (λ i. u32_at buf (4 + 4 * i)) (numbers_from 0 number)
    → mid ≡ before ++ node ∷ [] → buf ≡ pages node
    → ReadsInto mid after result (found_lists usable count pages firsts) → ReadsInto before after result (found_node usable count pages node)
node_read usable count node number buf before mid after firsts result pages one number_is right firsts_are mid_is is read =
    let here : u32_at (pages node) 0 ≡ number = ap (λ (b : List ℕ). u32_at b 0) (sym is) ∙ sym number_is in
    let named : firsts ≡ first_trunks pages node =
    firsts_are ∙ ap (λ (b : List ℕ). map (λ i. u32_at b (4 + 4 * i)) (numbers_from 0 number)) is
    ∙ ap (λ (n : ℕ). map (λ i. u32_at (pages node) (4 + 4 * i)) (numbers_from 0 n)) (sym here) in
    let counted : is_list_count (u32_at (pages node) 0) ≡ true = ap is_list_count here ∙ right in
    let found : found_node usable count pages node ≡ option_map (λ (ps : List ℕ). node ∷ ps) (found_lists usable count pages firsts) =
    rw (one, counted, sym named) refl in
    subst (ReadsInto before after result) (sym found) (into_node node before mid after result (found_lists usable count pages firsts) mid_is read)

-- page 1 names a node page, or a trunk
pub all_node : (usable count first : ℕ) (buf before after : List ℕ) (result : Result (Unit {0}) ConvertFault) (pages : Paging) → names_node buf ≡ true → first ≡ u32_at buf 32
    → buf ≡ pages 1 → ReadsInto before after result (found_node usable count pages first) → ReadsInto before after result (found_free usable count pages)
all_node usable count first buf before after result pages named first_is is read =
    let here : names_node (pages 1) ≡ true = ap names_node (sym is) ∙ named in
    let there : u32_at (pages 1) 32 ≡ first = ap (λ (b : List ℕ). u32_at b 32) (sym is) ∙ sym first_is in
    let found : found_free usable count pages ≡ found_node usable count pages first = rw (here, there) refl in
    subst (ReadsInto before after result) (sym found) read

pub all_stock : (usable count first : ℕ) (buf before after : List ℕ) (result : Result (Unit {0}) ConvertFault) (pages : Paging) → names_node buf ≡ false → first ≡ u32_at buf 32
    → buf ≡ pages 1 → ReadsInto before after result (found_trunks usable count pages (count + 1) first) → ReadsInto before after result (found_free usable count pages)
all_stock usable count first buf before after result pages named first_is is read =
    let here : names_node (pages 1) ≡ false = ap names_node (sym is) ∙ named in
    let there : u32_at (pages 1) 32 ≡ first = ap (λ (b : List ℕ). u32_at b 32) (sym is) ∙ sym first_is in
    let found : found_free usable count pages ≡ found_trunks usable count pages (count + 1) first = rw (here, there) refl in
    subst (ReadsInto before after result) (sym found) read
