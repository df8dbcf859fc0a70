-- Why free lists are not put in server form.
use Rattle.std.proofs.Common.{◌≡◌, ◌≢◌, ◌∙◌, ℕ, zero, suc, ◌+◌, ◌-◌, ◌*◌, ◌^◌, ◌<◌, ◌≤◌, List, [], ◌∷◌, ◌++◌, drop, length, take, refl, sym, ap, subst, arith, true, false, Bool, Option, Some, None, Err, unwrap_or, ⊎_elim, inl, inr}
use Rattle.std.specs.Prelude.{◌&&◌, ◌==◌, if◌then◌else◌, not, nat_lt, slice_get}
use Rattle.std.proofs.lemmas.Bool.{and_parts, cases_lt, eq-eqb, le-leb, ne_eqb}
use Rattle.std.proofs.lemmas.List.{length-append, length-drop, length-take-le}
use Rattle.std.proofs.lemmas.List.Elements.{All-cons, All-nil}
use Rattle.byteorder.specs.Endian.{big_bytes}
use Rattle.byteorder.specs.Numbers.{length-bytes_high_first}
use Rattle.spe_model.specs.Header.{fields, is_size_valid}
use Rattle.spe_space.proofs.FrontLemmas.{u32_at-take}
use Rattle.spe_rewrite.specs.declared.change.Change.{Change}
use Rattle.spe_rewrite.specs.Changes.{AreChanges}
use Rattle.spe_convert.specs.Made.{change_with}
use Rattle.spe_model.specs.declared.recovery.Recovered.{Recovered}
use Rattle.spe_model.specs.Big.{u32_at}
use Rattle.spe_model.specs.Database.{Database}
use Rattle.spe_model.specs.Faults.{Rose}
use Rattle.spe_model.specs.FreeList.{is_list_count, names_node}
use Rattle.spe_model.specs.Paging.{Paging}
use Rattle.spe_model.specs.Served.{IsPrepared}
use Rattle.spe_model.specs.Settled.{page_in}
use Rattle.spe_model.specs.Standing.{StandsFor}
use Rattle.spe_model.specs.Trace.{History}
use Rattle.spe_model.specs.Walk.{is_one_of}
use Rattle.spe_frame.specs.Times.{AreSame, one_if, times}
use Rattle.spe_frame.proofs.TimesLemmas.{here, same_or_not, there}
use Rattle.spe_rewrite.specs.declared.fault.RewriteFault.{RewriteFault}
use Rattle.spe_rewrite.specs.declared.fault.RewriteFault.TheVariants as rewriting
use Rattle.spe_rewrite.specs.Told.{HasCauses, IsCausedBy}
use Rattle.spe_convert.specs.declared.fault.ConvertFault.{ConvertFault}
use Rattle.spe_convert.specs.declared.fault.ConvertFault.TheVariants.{Corrupt, Disk, Full, Memory, Prepared}
use Rattle.spe_convert.specs.Causes.{HasPrepareCause, HasRefusing, IsPrepareFault, IsRefusing, fault_of}
use Rattle.spe_convert.specs.Changes.{counted_page}
use Rattle.spe_convert.specs.Free.{IsDamage}
use Rattle.spe_convert.specs.Prepare.{IsFullWhere, IsPreparedExactly, HasRoomFor, Refuses, is_over, is_server}
use Rattle.spe_convert.specs.Reading.{HasPlainReading, HasReading, IsPlain, IsReading, WhereHeld, found_free, usable_of}
use Rattle.spe_convert.proofs.FoundLemmas.{read_none}

-- why free lists in server form are refused
pub server_wrong : (found : Recovered) (node : ℕ) (pages : Paging) → names_node (pages 1) ≡ true → is_server found.pages pages ≡ false → (T : Type 0) (lists : ℕ) → Refuses {T = T} found lists (Err (Corrupt node)) pages
server_wrong found node pages named wrong T lists = (
  inr wrong,
  λ db s. read_none (usable_of found) found.pages pages db s none,
)
  where
    none : found_free (usable_of found) found.pages pages ≡ None
    none = rw (named, wrong) refl

rose_earlier : (before mid now : ℕ) → before ≤ mid → Rose mid now → Rose before now
rose_earlier before mid now low rose = omega (arith, low, rose)

-- a refusal of an earlier step
pub refuses_again : (T S : Type 0) (found : Recovered) (lists : ℕ) (fault : ConvertFault) (pages : Paging) → Refuses {T = T} found lists (Err fault) pages → Refuses {T = S} found lists (Err fault) pages
refuses_again T S found lists Disk pages r = tt
refuses_again T S found lists Memory pages r = tt
refuses_again T S found lists Prepared pages r = r
refuses_again T S found lists (Full n) pages r = r
refuses_again T S found lists (Corrupt n) pages r = r

pub refuses_read : (S : Type 0) (found : Recovered) (lists before now : ℕ) (fault : ConvertFault) (pages : Paging) → IsReading before now fault → names_node (pages 1) ≡ false
    → IsDamage (usable_of found) found.pages fault pages → Refuses {T = S} found lists (Err fault) pages
refuses_read S found lists before now Disk pages cause named damage = tt
refuses_read S found lists before now Memory pages cause named damage = tt
refuses_read S found lists before now Prepared pages cause named damage = absurd cause
refuses_read S found lists before now (Full n) pages cause named damage = absurd cause
refuses_read S found lists before now (Corrupt n) pages cause named damage = (inl named, damage)

pub refuses_plain : (S : Type 0) (found : Recovered) (lists before now : ℕ) (fault : ConvertFault) (pages : Paging) → IsPlain before now fault → Refuses {T = S} found lists (Err fault) pages
refuses_plain S found lists before now Disk pages cause = tt
refuses_plain S found lists before now Memory pages cause = tt
refuses_plain S found lists before now Prepared pages cause = absurd cause
refuses_plain S found lists before now (Full n) pages cause = absurd cause
refuses_plain S found lists before now (Corrupt n) pages cause = absurd cause

pub where_all : (told : Option History) (found : Recovered) (P : Paging → Type 0) → ((pages : Paging) → P pages) → WhereHeld told found P
where_all None found P f = tt
where_all (Some h) found P f = λ pages holds. f pages

pub refusing_read : {X T : Type 0} (before mid now : ℕ) (fault : ConvertFault) → before ≤ mid → HasReading {T = X} mid now (Err fault) → HasRefusing {T = T} before now (Err fault)
refusing_read before mid now fault low cause = record { later = let a = cause.later in omega (arith, low, a); failed = by_fault fault cause.failed }
  where
    by_fault : (f : ConvertFault) → IsReading mid now f → IsRefusing before now f
    by_fault Disk rose = rose_earlier before mid now low rose
    by_fault Memory rose = tt
    by_fault Prepared rose = tt
    by_fault (Full n) rose = tt
    by_fault (Corrupt n) rose = tt

pub refusing_plain : {X T : Type 0} (before mid now : ℕ) (fault : ConvertFault) → before ≤ mid → HasPlainReading {T = X} mid now (Err fault) → HasRefusing {T = T} before now (Err fault)
refusing_plain before mid now fault low cause = record { later = let a = cause.later in omega (arith, low, a); failed = by_fault fault cause.failed }
  where
    by_fault : (f : ConvertFault) → IsPlain mid now f → IsRefusing before now f
    by_fault Disk rose = rose_earlier before mid now low rose
    by_fault Memory rose = tt
    by_fault Prepared rose = tt
    by_fault (Full n) rose = tt
    by_fault (Corrupt n) rose = tt

-- one number is taken out of some
abbrev without : ℕ → List ℕ → List ℕ
without x [] = []
without x (y ∷ ys) = if x == y then ys else y ∷ without x ys

without_times : (x : ℕ) (ys : List ℕ) (n : ℕ) → 0 < times x ys → times n ys ≡ one_if (n == x) + times n (without x ys)
without_times x [] n some = absurd (omega (arith, some))
without_times x (y ∷ ys) n some = ⊎_elim
    (λ (e : x ≡ y). rw (eq-eqb x y e) (ap (λ (m : ℕ). one_if (n == m) + times n ys) (sym e)))
    (λ (e : x ≢ y). rw (ne_eqb x y e) (let at = there x y ys e in let rest = without_times x ys n (omega (arith, at, some)) in omega (arith, rest)))
    (same_or_not x y)

without_length : (x : ℕ) (ys : List ℕ) → 0 < times x ys → length ys ≡ suc (length (without x ys))
without_length x [] some = absurd (omega (arith, some))
without_length x (y ∷ ys) some = ⊎_elim
    (λ (e : x ≡ y). rw (eq-eqb x y e) refl)
    (λ (e : x ≢ y). rw (ne_eqb x y e) (ap suc (let at = there x y ys e in without_length x ys (omega (arith, at, some)))))
    (same_or_not x y)

-- lists with the same numbers are as long
same_lengths : (xs ys : List ℕ) → AreSame xs ys → length xs ≡ length ys
same_lengths [] [] same = refl
same_lengths [] (y ∷ ys) same = let e = same y in let at = here y y ys refl in absurd (omega (arith, e, at))
same_lengths (x ∷ xs) ys same =
    let mine = same x in
    let at = here x x xs refl in
    let some : 0 < times x ys = omega (arith, mine, at) in
    let rest = same_lengths xs (without x ys) (λ n. let s = same n in let w = without_times x ys n some in omega (arith, s, w)) in
    ap suc rest ∙ sym (without_length x ys some)

pub over_same : (found : Recovered) (lists : ℕ) (free listed : List ℕ) → AreSame free listed → is_over found lists listed ≡ is_over found lists free
over_same found lists free listed same = ap (λ (n : ℕ). nat_lt (2 ^ 30) ((found.pages + (lists + 1 - n)) * found.page_size)) (sym (same_lengths free listed same))

-- there are no lists on a page that there is not
no_lists : (pages : List (List ℕ)) (n : ℕ) → length pages < n → is_list_count (u32_at (page_in pages n) 0) ≡ false
unfolding u32_at
no_lists pages n above =
    let none : slice_get pages (n - 1) ≡ None = get_none pages (n - 1) (omega (arith, above)) in
    ap (λ (o : Option (List ℕ)). is_list_count (u32_at (unwrap_or o []) 0)) none
  where
    get_none : (ps : List (List ℕ)) (k : ℕ) → length ps ≤ k → slice_get ps k ≡ None
    get_none [] k low = refl
    get_none (p ∷ ps) zero low = absurd (omega (arith, low))
    get_none (p ∷ ps) (suc k) low = get_none ps k (omega (arith, low))

named_some : (page : List ℕ) → names_node page ≡ true → 1 ≤ u32_at page 32
named_some page is = ⊎_elim
    (λ (low : u32_at page 32 < 1).
    let zero_is : u32_at page 32 ≡ 0 = omega (arith, low) in
    let no : not (u32_at page 32 == 0) ≡ false = ap not (eq-eqb (u32_at page 32) 0 zero_is) in
    absurd (let both : true ≡ false = sym (and_parts (not (u32_at page 32 == 0)) (u32_at page 36 == 0) is).0 ∙ no in cc))
    (λ (high : 1 ≤ u32_at page 32). high)
    (cases_lt (u32_at page 32) 1)

not_server : (found : Recovered) (pages : List (List ℕ)) → found.pages ≡ length pages → is_server found.pages (page_in pages) ≡ false → IsPrepared (page_in pages) → ⊥
not_server found pages count is are =
    let node = u32_at (page_in pages 1) 32 in
    let low = named_some (page_in pages 1) are.0 in
    ⊎_elim
    (λ (above : found.pages < node).
    absurd (let both : true ≡ false = sym are.1 ∙ no_lists pages node (omega (arith, above, count)) in cc))
    (λ (inside : node ≤ found.pages).
    let yes : is_one_of found.pages node ≡ true = rw (le-leb 1 node low, le-leb node found.pages inside) refl in
    let server : is_server found.pages (page_in pages) ≡ true = rw (yes, are.1) refl in
    absurd (let both : true ≡ false = sym server ∙ is in cc))
    (cases_lt found.pages node)

pub not_named : (pages : Paging) → names_node (pages 1) ≡ false → IsPrepared pages → ⊥
not_named pages is are = absurd (let both : true ≡ false = sym are.0 ∙ is in cc)

pub prepared_by : (T : Type 0) (found : Recovered) (lists : ℕ) (pages : List (List ℕ)) (fault : ConvertFault) → found.pages ≡ length pages → Refuses {T = T} found lists (Err fault) (page_in pages)
    → IsPreparedExactly (Err fault) (page_in pages)
prepared_by T found lists pages Disk count r = tt
prepared_by T found lists pages Memory count r = tt
prepared_by T found lists pages Prepared count r = (r.0, (and_parts (is_one_of found.pages (u32_at (page_in pages 1) 32)) (is_list_count (u32_at (page_in pages (u32_at (page_in pages 1) 32)) 0)) r.1).1)
prepared_by T found lists pages (Full n) count r = not_named (page_in pages) r.0
prepared_by T found lists pages (Corrupt n) count r = ⊎_elim
    (λ (e : names_node (page_in pages 1) ≡ false). not_named (page_in pages) e)
    (λ (e : is_server found.pages (page_in pages) ≡ false). not_server found pages count e)
    r.0

pub full_by : (T : Type 0) (found : Recovered) (lists : ℕ) (pages : Paging) (fault : ConvertFault) → Refuses {T = T} found lists (Err fault) pages → IsFullWhere found lists (Err fault) pages
full_by T found lists pages Disk r = λ db s. tt
full_by T found lists pages Memory r = λ db s. tt
full_by T found lists pages Prepared r = λ db s. tt
full_by T found lists pages (Full n) r = λ db s. (r.1, r.2 db s)
full_by T found lists pages (Corrupt n) r = λ db s. tt

pub damage_by : (T : Type 0) (found : Recovered) (lists : ℕ) (pages : Paging) (fault : ConvertFault) → Refuses {T = T} found lists (Err fault) pages → IsDamage (usable_of found) found.pages fault pages
damage_by T found lists pages Disk r = tt
damage_by T found lists pages Memory r = tt
damage_by T found lists pages Prepared r = tt
damage_by T found lists pages (Full n) r = tt
damage_by T found lists pages (Corrupt n) r = r.1

-- a fault of the disk, or want of memory
pub prepared_late : (pages : Paging) (fault : RewriteFault) (given : ConvertFault) → given ≡ fault_of fault → IsPreparedExactly (Err given) pages
prepared_late pages rewriting.Disk given is = subst (λ (f : ConvertFault). IsPreparedExactly (Err f) pages) (sym is) tt
prepared_late pages rewriting.Memory given is = subst (λ (f : ConvertFault). IsPreparedExactly (Err f) pages) (sym is) tt

pub full_late : (found : Recovered) (lists : ℕ) (pages : Paging) (fault : RewriteFault) (given : ConvertFault) → given ≡ fault_of fault → IsFullWhere found lists (Err given) pages
full_late found lists pages rewriting.Disk given is = subst (λ (f : ConvertFault). IsFullWhere found lists (Err f) pages) (sym is) (λ db s. tt)
full_late found lists pages rewriting.Memory given is = subst (λ (f : ConvertFault). IsFullWhere found lists (Err f) pages) (sym is) (λ db s. tt)

pub damage_late : (usable count : ℕ) (pages : Paging) (fault : RewriteFault) (given : ConvertFault) → given ≡ fault_of fault → IsDamage usable count given pages
damage_late usable count pages rewriting.Disk given is = subst (λ (f : ConvertFault). IsDamage usable count f pages) (sym is) tt
damage_late usable count pages rewriting.Memory given is = subst (λ (f : ConvertFault). IsDamage usable count f pages) (sym is) tt

pub late_other : (fault : RewriteFault) (given : ConvertFault) → given ≡ fault_of fault → given ≢ Disk → given ≢ Memory → ⊥
late_other rewriting.Disk given is a b = a is
late_other rewriting.Memory given is a b = b is

-- the cause of a refusal
pub cause_refused : {X T : Type 0} (reads now ops now_ops : ℕ) (fault : ConvertFault) → now_ops ≡ ops → HasRefusing {T = X} reads now (Err fault) → HasPrepareCause {T = T} reads now ops now_ops (Err fault)
cause_refused reads now ops now_ops fault same cause = record { reads_later = cause.later; ops_later = omega (arith, same); failed = by_fault fault cause.failed }
  where
    by_fault : (f : ConvertFault) → IsRefusing reads now f → IsPrepareFault reads now ops now_ops f
    by_fault Disk rose = inl rose
    by_fault Memory rose = tt
    by_fault Prepared rose = tt
    by_fault (Full n) rose = tt
    by_fault (Corrupt n) rose = tt

-- the cause of a rewriting that failed
pub cause_late : {X T : Type 0} (reads mid_reads now ops mid_ops now_ops : ℕ) (fault : RewriteFault) (given : ConvertFault) → reads ≤ mid_reads → ops ≤ mid_ops → given ≡ fault_of fault
    → HasCauses {X = X} mid_reads now mid_ops now_ops (Err fault) → HasPrepareCause {T = T} reads now ops now_ops (Err given)
cause_late {T = T} reads mid_reads now ops mid_ops now_ops fault given r o is cause =
    let a = cause.reads_later in
    let b = cause.ops_later in
    subst (λ (f : ConvertFault). HasPrepareCause {T = T} reads now ops now_ops (Err f)) (sym is)
    (record { reads_later = omega (arith, r, a); ops_later = omega (arith, o, b); failed = by_fault fault cause.failed })
  where
    by_fault : (f : RewriteFault) → IsCausedBy mid_reads now mid_ops now_ops f → IsPrepareFault reads now ops now_ops (fault_of f)
    by_fault rewriting.Disk cause = ⊎_elim
        (λ (read : Rose mid_reads now). inl (rose_earlier reads mid_reads now r read))
        (λ (op : Rose mid_ops now_ops). inr (rose_earlier ops mid_ops now_ops o op))
        cause
    by_fault rewriting.Memory cause = tt

-- a page count that counts
pub counts_read : (page : List ℕ) (count change copy : ℕ) (result : Bool) → count ≡ u32_at page 28 → change ≡ u32_at page 24 → copy ≡ u32_at page 92 → result ≡ (not (count == 0) && (change == copy))
    → result ≡ is_size_valid (fields (take 100 page))
counts_read page count change copy result a b d is =
    let x = a ∙ sym (u32_at-take 100 28 page (omega arith)) in
    let y = b ∙ sym (u32_at-take 100 24 page (omega arith)) in
    let z = d ∙ sym (u32_at-take 100 92 page (omega arith)) in
    is ∙ ap (λ (n : ℕ). not (n == 0) && (change == copy)) x
    ∙ ap (λ (n : ℕ). not (u32_at (take 100 page) 28 == 0) && (n == copy)) y
    ∙ ap (λ (n : ℕ). not (u32_at (take 100 page) 28 == 0) && (u32_at (take 100 page) 24 == n)) z

counted_long : (count : ℕ) (page : List ℕ) → 100 ≤ length page → length (counted_page count page) ≡ length page
unfolding counted_page
counted_long count page long =
    let a = take 28 page in
    let c = big_bytes 4 count in
    let m = take 60 (drop 32 page) in
    let k = take 4 (drop 24 page) in
    let d = drop 96 page in
    let l32 : length (drop 32 page) ≡ length page - 32 = length-drop 32 page in
    let l24 : length (drop 24 page) ≡ length page - 24 = length-drop 24 page in
    let la : length a ≡ 28 = length-take-le 28 page (omega (arith, long)) in
    let lm : length m ≡ 60 = length-take-le 60 (drop 32 page) (omega (arith, l32, long)) in
    let lk : length k ≡ 4 = length-take-le 4 (drop 24 page) (omega (arith, l24, long)) in
    let ld : length d ≡ length page - 96 = length-drop 96 page in
    let lc = length-bytes_high_first 4 count in
    let l1 = length-append a c in
    let l2 = length-append (a ++ c) m in
    let l3 = length-append (a ++ c ++ m) k in
    let l4 = length-append (a ++ c ++ m ++ k) d in
    omega (arith, la, lm, lk, ld, lc, l1, l2, l3, l4, long)

-- page 1 alone changes
pub front_alone : (count : ℕ) (page bytes : List ℕ) (none start result : List Change) → 100 ≤ length page → none ≡ [] → start ≡ none ++ change_with 1 bytes ∷ [] → bytes ≡ counted_page count page → result ≡ start
    → AreChanges (length page) result
front_alone count page bytes none start result long none_is start_is bytes_is result_is =
    let P : Change → Type 0 = λ d. length d.bytes ≡ length page in
    let are : result ≡ change_with 1 bytes ∷ [] = result_is ∙ start_is ∙ ap (λ (cs : List Change). cs ++ change_with 1 bytes ∷ []) none_is in
    subst (AreChanges (length page)) (sym are)
    (record { ascending = (omega arith, tt); sized = All-cons P (change_with 1 bytes) [] (ap length bytes_is ∙ counted_long count page long) (All-nil P) })

pub refused_outside : (T : Type 0) (found : Recovered) (node : ℕ) (named inside : Bool) (buf : List ℕ) (pages : Paging) → named ≡ names_node buf → named ≡ true → node ≡ u32_at buf 32 → inside ≡ is_one_of found.pages node → inside ≡ false
    → buf ≡ pages 1 → (lists : ℕ) → Refuses {T = T} found lists (Err (Corrupt node)) pages
refused_outside T found node named inside buf pages named_is is_so node_is inside_is is_out read lists =
    let name : names_node (pages 1) ≡ true = ap names_node (sym read) ∙ sym named_is ∙ is_so in
    let at : node ≡ u32_at (pages 1) 32 = node_is ∙ ap (λ (b : List ℕ). u32_at b 32) read in
    let out : is_one_of found.pages (u32_at (pages 1) 32) ≡ false = ap (is_one_of found.pages) (sym at) ∙ sym inside_is ∙ is_out in
    server_wrong found node pages name (ap (λ (b : Bool). b && is_list_count (u32_at (pages (u32_at (pages 1) 32)) 0)) out) T lists

pub refused_lists : (T : Type 0) (found : Recovered) (node number : ℕ) (named inside few : Bool) (buf next : List ℕ) (pages : Paging) → named ≡ names_node buf → named ≡ true → node ≡ u32_at buf 32
    → inside ≡ is_one_of found.pages node → inside ≡ true → number ≡ u32_at next 0 → few ≡ is_list_count number → few ≡ false
    → buf ≡ pages 1 → next ≡ pages node → (lists : ℕ) → Refuses {T = T} found lists (Err (Corrupt node)) pages
refused_lists T found node number named inside few buf next pages named_is is_so node_is inside_is within number_is few_is is_none read read_next lists =
    let name : names_node (pages 1) ≡ true = ap names_node (sym read) ∙ sym named_is ∙ is_so in
    let at : node ≡ u32_at (pages 1) 32 = node_is ∙ ap (λ (b : List ℕ). u32_at b 32) read in
    let inn : is_one_of found.pages (u32_at (pages 1) 32) ≡ true = ap (is_one_of found.pages) (sym at) ∙ sym inside_is ∙ within in
    let count : is_list_count (u32_at (pages (u32_at (pages 1) 32)) 0) ≡ false =
    ap (λ (n : ℕ). is_list_count (u32_at (pages n) 0)) (sym at) ∙ ap (λ (b : List ℕ). is_list_count (u32_at b 0)) (sym read_next) ∙ ap is_list_count (sym number_is) ∙ sym few_is ∙ is_none in
    server_wrong found node pages name (ap (λ (b : Bool). b && is_list_count (u32_at (pages (u32_at (pages 1) 32)) 0)) inn ∙ count) T lists

pub refused_prepared : (T : Type 0) (found : Recovered) (node number : ℕ) (named inside few : Bool) (buf next : List ℕ) (pages : Paging) → named ≡ names_node buf → named ≡ true → node ≡ u32_at buf 32
    → inside ≡ is_one_of found.pages node → inside ≡ true → number ≡ u32_at next 0 → few ≡ is_list_count number → few ≡ true
    → buf ≡ pages 1 → next ≡ pages node → (lists : ℕ) → Refuses {T = T} found lists (Err Prepared) pages
refused_prepared T found node number named inside few buf next pages named_is is_so node_is inside_is within number_is few_is many read read_next lists =
    let name : names_node (pages 1) ≡ true = ap names_node (sym read) ∙ sym named_is ∙ is_so in
    let at : node ≡ u32_at (pages 1) 32 = node_is ∙ ap (λ (b : List ℕ). u32_at b 32) read in
    let inn : is_one_of found.pages (u32_at (pages 1) 32) ≡ true = ap (is_one_of found.pages) (sym at) ∙ sym inside_is ∙ within in
    let count : is_list_count (u32_at (pages (u32_at (pages 1) 32)) 0) ≡ true =
    ap (λ (n : ℕ). is_list_count (u32_at (pages n) 0)) (sym at) ∙ ap (λ (b : List ℕ). is_list_count (u32_at b 0)) (sym read_next) ∙ ap is_list_count (sym number_is) ∙ sym few_is ∙ many in
    (name, ap (λ (b : Bool). b && is_list_count (u32_at (pages (u32_at (pages 1) 32)) 0)) inn ∙ count)

pub refuses_room : (S : Type 0) (found : Recovered) (lists : ℕ) (free : List ℕ) (fault : ConvertFault) (pages : Paging) → HasRoomFor found lists free (Err fault) → names_node (pages 1) ≡ false
    → ((db : Database) (stands : StandsFor (usable_of found) found.pages pages db) → AreSame free stands.listed) → Refuses {T = S} found lists (Err fault) pages
refuses_room S found lists free Disk pages room named all = absurd room
refuses_room S found lists free Memory pages room named all = absurd room
refuses_room S found lists free Prepared pages room named all = absurd room
refuses_room S found lists free (Corrupt n) pages room named all = absurd room
refuses_room S found lists free (Full n) pages room named all = (named, room.0, λ db s. over_same found lists free s.listed (all db s) ∙ room.1)

pub refusing_room : {T : Type 0} (found : Recovered) (lists : ℕ) (free : List ℕ) (before now : ℕ) (fault : ConvertFault) → before ≤ now → HasRoomFor found lists free (Err fault) → HasRefusing {T = T} before now (Err fault)
refusing_room found lists free before now fault low room = record { later = low; failed = by_fault fault room }
  where
    by_fault : (f : ConvertFault) → HasRoomFor found lists free (Err f) → IsRefusing before now f
    by_fault Disk room = absurd room
    by_fault Memory room = tt
    by_fault Prepared room = tt
    by_fault (Full n) room = tt
    by_fault (Corrupt n) room = tt
