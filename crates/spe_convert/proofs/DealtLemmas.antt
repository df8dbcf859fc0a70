-- Free pages that are dealt out to lists.
use Rattle.std.proofs.Common.{append_assoc, ◌≡◌, ℕ, zero, suc, ◌+◌, ◌%◌, ◌<◌, ◌∙◌, List, [], ◌∷◌, ◌++◌, length, map, refl, sym, ap, subst, arith, true, false, ⊎_elim}
use Rattle.std.specs.Prelude.{nat_lt}
use Rattle.std.specs.List.{flat_map}
use Rattle.std.proofs.lemmas.Bool.{cases_Bool, ltb-true}
use Rattle.std.proofs.lemmas.List.{length-append}
use Rattle.spe_frame.specs.Times.{times}
use Rattle.spe_frame.proofs.TimesLemmas.{Each, times-append}
use Rattle.spe_convert.specs.Made.{heads}
use Rattle.spe_convert.specs.Trunk.{Trunk, bare, emptied, freed, made, pages_of, taking, with_leaf}
use Rattle.spe_convert.specs.Dealt.{dealt, freed_at, made_at, made_of}
use Rattle.spe_convert.proofs.TrunkLemmas.{AreLinked, EachTrunk, IsSmall, all_of, each_trunk_left, each_trunk_right}
use Rattle.std.proofs.Math.Nat.{mod-lt}
use Rattle.spe_convert.proofs.ListLemmas.{each_append, trunk_append}
use Rattle.spe_convert.proofs.ChainLemmas.{Fits}

-- the trunks behind each first trunk, by list
abbrev pub AreLists : List Trunk → (chains : List (List Trunk)) → Type 0
AreLists [] [] = Unit {0}
AreLists [] (c ∷ cs) = ⊥
AreLists (t ∷ ts) [] = ⊥
AreLists (t ∷ ts) (c ∷ cs) = AreLinked t.next c × AreLists ts cs

abbrev pub EachChain : (Trunk → Type 0) → List (List Trunk) → Type 0
EachChain P [] = Unit {0}
EachChain P (c ∷ cs) = EachTrunk P c × EachChain P cs

abbrev pub chained_pages : List (List Trunk) → List ℕ
chained_pages chains = flat_map all_of chains

pub all_both : (xs ys : List Trunk) → all_of (xs ++ ys) ≡ all_of xs ++ all_of ys
all_both [] ys = refl
all_both (x ∷ xs) ys = rw (all_both xs ys) (simp append_assoc)

-- one list once a page is freed into it
record OneFreed (P : Trunk → Type 0) (most page : ℕ) (t : Trunk) (c : List Trunk) : Type 0 where
  chain : List Trunk
  linked : AreLinked (freed most page t).next chain
  each : EachTrunk P chain
  counts : (n : ℕ) → times n (all_of chain) ≡ times n (all_of c) + times n (all_of (made most page t))

one_freed : (P : Trunk → Type 0) (most page : ℕ) (t : Trunk) (c : List Trunk) → 0 < page → AreLinked t.next c → EachTrunk P c → EachTrunk P (made most page t)
    → OneFreed P most page t c
one_freed P most page t c some linked each more = ⊎_elim
    (λ (e : nat_lt (length t.leaves) most ≡ true).
    let kept : freed most page t ≡ with_leaf page t = rw e refl in
    let none : made most page t ≡ [] = rw e refl in
    record {
      chain = c;
      linked = subst (λ (x : Trunk). AreLinked x.next c) (sym kept) linked;
      each = each;
      counts = λ n. let a = ap (λ (ts : List Trunk). times n (all_of ts)) none in omega (arith, a);
    })
    (λ (e : nat_lt (length t.leaves) most ≡ false).
    let kept : freed most page t ≡ emptied page t = rw e refl in
    let one : made most page t ≡ taking page t ∷ [] = rw e refl in
    let mine = subst (EachTrunk P) one more in
    record {
      chain = taking page t ∷ c;
      linked = subst (λ (x : Trunk). AreLinked x.next (taking page t ∷ c)) (sym kept) (refl, some, linked);
      each = (mine.0, each);
      counts = λ n.
          let a = ap (λ (ts : List Trunk). times n (all_of ts)) one in
          let b = times-append n (page ∷ t.leaves) (all_of c) in
          let d = times-append n (page ∷ t.leaves) [] in
          omega (arith, a, b, d);
    })
    (cases_Bool (nat_lt (length t.leaves) most))

-- all lists once a page is freed into one of them
pub record AllFreed (P : Trunk → Type 0) (firsts made : List Trunk) (chains : List (List Trunk)) : Type 0 where
  pub now : List (List Trunk)
  pub lists : AreLists firsts now
  pub each : EachChain P now
  pub counts : (n : ℕ) → times n (chained_pages now) ≡ times n (chained_pages chains) + times n (all_of made)

one_of_all : (P : Trunk → Type 0) (most k page : ℕ) (ts : List Trunk) (cs : List (List Trunk)) → 0 < page → AreLists ts cs → EachChain P cs
    → EachTrunk P (made_at most k page ts) → AllFreed P (freed_at most k page ts) (made_at most k page ts) cs
one_of_all P most k page [] [] some lists each more = record { now = []; lists = tt; each = tt; counts = λ n. omega arith }
one_of_all P most k page [] (c ∷ cs) some lists each more = absurd lists
one_of_all P most k page (t ∷ ts) [] some lists each more = absurd lists
one_of_all P most zero page (t ∷ ts) (c ∷ cs) some lists each more =
    let one = one_freed P most page t c some lists.0 each.0 more in
    record {
      now = one.chain ∷ cs;
      lists = (one.linked, lists.1);
      each = (one.each, each.1);
      counts = λ n.
          let a = one.counts n in
          let b = times-append n (all_of one.chain) (chained_pages cs) in
          let d = times-append n (all_of c) (chained_pages cs) in
          omega (arith, a, b, d);
    }
one_of_all P most (suc k) page (t ∷ ts) (c ∷ cs) some lists each more =
    let rest = one_of_all P most k page ts cs some lists.1 each.1 more in
    record {
      now = c ∷ rest.now;
      lists = (lists.0, rest.lists);
      each = (each.0, rest.each);
      counts = λ n.
          let a = rest.counts n in
          let b = times-append n (all_of c) (chained_pages rest.now) in
          let d = times-append n (all_of c) (chained_pages cs) in
          omega (arith, a, b, d);
    }

pub dealt_lists : (P : Trunk → Type 0) (most lists j : ℕ) (firsts : List Trunk) (chains : List (List Trunk)) (ps : List ℕ) → Each (λ n. 0 < n) ps
    → AreLists firsts chains → EachChain P chains → EachTrunk P (made_of most lists j firsts ps)
    → AllFreed P (dealt most lists j firsts ps) (made_of most lists j firsts ps) chains
dealt_lists P most lists j firsts chains [] some are each more = record { now = chains; lists = are; each = each; counts = λ n. omega arith }
dealt_lists P most lists j firsts chains (p ∷ ps) some are each more =
    let mine = made_at most (j % lists) p firsts in
    let later_ones = made_of most lists (j + 1) (freed_at most (j % lists) p firsts) ps in
    let one = one_of_all P most (j % lists) p firsts chains some.0 are each (each_trunk_left P mine later_ones more) in
    let rest = dealt_lists P most lists (j + 1) (freed_at most (j % lists) p firsts) one.now ps some.1 one.lists one.each (each_trunk_right P mine later_ones more) in
    record {
      now = rest.now;
      lists = rest.lists;
      each = rest.each;
      counts = λ n.
          let a = one.counts n in
          let b = rest.counts n in
          let c : times n (all_of (mine ++ later_ones)) ≡ times n (all_of mine) + times n (all_of later_ones) = ap (times n) (all_both mine later_ones) ∙ times-append n (all_of mine) (all_of later_ones) in
          omega (arith, a, b, c);
    }

-- no page is lost, and none is new
one_counts : (most page n : ℕ) (t : Trunk) → times n (pages_of (freed most page t)) + times n (all_of (made most page t)) ≡ times n (pages_of t) + times n (page ∷ [])
one_counts most page n t = ⊎_elim
    (λ (e : nat_lt (length t.leaves) most ≡ true).
    let a = times-append n t.leaves (page ∷ []) in rw e (omega (arith, a)))
    (λ (e : nat_lt (length t.leaves) most ≡ false).
    let a = times-append n (page ∷ t.leaves) [] in rw e (omega (arith, a)))
    (cases_Bool (nat_lt (length t.leaves) most))

at_counts : (most k page n : ℕ) (ts : List Trunk) → k < length ts
    → times n (all_of (freed_at most k page ts)) + times n (all_of (made_at most k page ts)) ≡ times n (all_of ts) + times n (page ∷ [])
at_counts most k page n [] low = absurd (omega (arith, low))
at_counts most zero page n (t ∷ ts) low =
    let a = one_counts most page n t in
    let b = times-append n (pages_of (freed most page t)) (all_of ts) in
    let c = times-append n (pages_of t) (all_of ts) in
    omega (arith, a, b, c)
at_counts most (suc k) page n (t ∷ ts) low =
    let a = at_counts most k page n ts (omega (arith, low)) in
    let b = times-append n (pages_of t) (all_of (freed_at most k page ts)) in
    let c = times-append n (pages_of t) (all_of ts) in
    omega (arith, a, b, c)

pub length_at : (most k page : ℕ) (ts : List Trunk) → length (freed_at most k page ts) ≡ length ts
length_at most k page [] = refl
length_at most zero page (t ∷ ts) = refl
length_at most (suc k) page (t ∷ ts) = ap suc (length_at most k page ts)

pub dealt_counts : (most lists j n : ℕ) (firsts : List Trunk) (ps : List ℕ) → length firsts ≡ lists → 0 < lists
    → times n (all_of (dealt most lists j firsts ps)) + times n (all_of (made_of most lists j firsts ps)) ≡ times n (all_of firsts) + times n ps
dealt_counts most lists j n firsts [] len some = omega arith
dealt_counts most lists j n firsts (p ∷ ps) len some =
    let k = j % lists in
    let mine = made_at most k p firsts in
    let next = freed_at most k p firsts in
    let later_ones = made_of most lists (j + 1) next ps in
    let low : k < length firsts = subst (λ (m : ℕ). k < m) (sym len) (mod-lt j some) in
    let a = at_counts most k p n firsts low in
    let b = dealt_counts most lists (j + 1) n next ps (length_at most k p firsts ∙ len) some in
    let c : times n (all_of (mine ++ later_ones)) ≡ times n (all_of mine) + times n (all_of later_ones) = ap (times n) (all_both mine later_ones) ∙ times-append n (all_of mine) (all_of later_ones) in
    omega (arith, a, b, c)

freed_page : (most page : ℕ) (t : Trunk) → (freed most page t).page ≡ t.page
freed_page most page t = ⊎_elim (λ (e : nat_lt (length t.leaves) most ≡ true). rw e refl) (λ (e : nat_lt (length t.leaves) most ≡ false). rw e refl)
    (cases_Bool (nat_lt (length t.leaves) most))

at_heads : (most k page : ℕ) (ts : List Trunk) → heads (freed_at most k page ts) ≡ heads ts
at_heads most k page [] = refl
at_heads most zero page (t ∷ ts) = ap (λ (n : ℕ). n ∷ heads ts) (freed_page most page t)
at_heads most (suc k) page (t ∷ ts) = ap (λ (ns : List ℕ). t.page ∷ ns) (at_heads most k page ts)

-- the first trunks stay the same pages
pub dealt_heads : (most lists j : ℕ) (firsts : List Trunk) (ps : List ℕ) → heads (dealt most lists j firsts ps) ≡ heads firsts
dealt_heads most lists j firsts [] = refl
dealt_heads most lists j firsts (p ∷ ps) =
    dealt_heads most lists (j + 1) (freed_at most (j % lists) p firsts) ps ∙ at_heads most (j % lists) p firsts

one_fits : (most page : ℕ) (t : Trunk) → IsSmall page → Fits most t → Fits most (freed most page t) × EachTrunk (Fits most) (made most page t)
one_fits most page t small fits = ⊎_elim
    (λ (e : nat_lt (length t.leaves) most ≡ true).
    let low : length t.leaves < most = ltb-true (length t.leaves) most e in
    let l = length-append t.leaves (page ∷ []) in
    rw e (record { next = fits.next; leaves = each_append IsSmall t.leaves (page ∷ []) fits.leaves (small, tt); few = omega (arith, l, low) }, tt))
    (λ (e : nat_lt (length t.leaves) most ≡ false).
    rw e (record { next = small; leaves = tt; few = omega arith }, (record { next = fits.next; leaves = fits.leaves; few = fits.few }, tt)))
    (cases_Bool (nat_lt (length t.leaves) most))

at_fits : (most k page : ℕ) (ts : List Trunk) → IsSmall page → EachTrunk (Fits most) ts
    → EachTrunk (Fits most) (freed_at most k page ts) × EachTrunk (Fits most) (made_at most k page ts)
at_fits most k page [] small fits = (tt, tt)
at_fits most zero page (t ∷ ts) small fits = let one = one_fits most page t small fits.0 in ((one.0, fits.1), one.1)
at_fits most (suc k) page (t ∷ ts) small fits = let rest = at_fits most k page ts small fits.1 in ((fits.0, rest.0), rest.1)

pub dealt_fits : (most lists j : ℕ) (firsts : List Trunk) (ps : List ℕ) → Each IsSmall ps → EachTrunk (Fits most) firsts
    → EachTrunk (Fits most) (dealt most lists j firsts ps) × EachTrunk (Fits most) (made_of most lists j firsts ps)
dealt_fits most lists j firsts [] small fits = (fits, tt)
dealt_fits most lists j firsts (p ∷ ps) small fits =
    let one = at_fits most (j % lists) p firsts small.0 fits in
    let rest = dealt_fits most lists (j + 1) (freed_at most (j % lists) p firsts) ps small.1 one.0 in
    (rest.0, trunk_append (Fits most) (made_at most (j % lists) p firsts) (made_of most lists (j + 1) (freed_at most (j % lists) p firsts) ps) one.1 rest.1)

-- lists with no page but their first trunks
pub bare_heads : (ns : List ℕ) → heads (map bare ns) ≡ ns
bare_heads [] = refl
bare_heads (n ∷ ns) = ap (λ (ms : List ℕ). n ∷ ms) (bare_heads ns)

pub bare_pages : (ns : List ℕ) → all_of (map bare ns) ≡ ns
bare_pages [] = refl
bare_pages (n ∷ ns) = ap (λ (ms : List ℕ). n ∷ ms) (bare_pages ns)

pub bare_fits : (most : ℕ) (ns : List ℕ) → EachTrunk (Fits most) (map bare ns)
bare_fits most [] = tt
bare_fits most (n ∷ ns) = (record { next = omega arith; leaves = tt; few = omega arith }, bare_fits most ns)

abbrev pub no_chains : List ℕ → List (List Trunk)
no_chains [] = []
no_chains (n ∷ ns) = [] ∷ no_chains ns

pub bare_lists : (ns : List ℕ) → AreLists (map bare ns) (no_chains ns)
bare_lists [] = tt
bare_lists (n ∷ ns) = (refl, bare_lists ns)

pub bare_each : (P : Trunk → Type 0) (ns : List ℕ) → EachChain P (no_chains ns)
bare_each P [] = tt
bare_each P (n ∷ ns) = (tt, bare_each P ns)

pub bare_chains : (ns : List ℕ) → chained_pages (no_chains ns) ≡ []
bare_chains [] = refl
bare_chains (n ∷ ns) = bare_chains ns
