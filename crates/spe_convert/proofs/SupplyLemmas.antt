-- Which pages change where free pages are put in server form.
use Rattle.std.proofs.Common.{◌≡◌, ◌≢◌, ◌⊎◌, ◌∙◌, ℕ, zero, suc, ◌+◌, ◌%◌, ◌<◌, ◌≤◌, List, [], ◌∷◌, ◌++◌, take, drop, length, map, refl, sym, ap, subst, arith, true, ⊎_elim, inl, inr, append-nil}
use Rattle.std.specs.Prelude.{is_some, nat_lt}
use Rattle.std.proofs.lemmas.Bool.{cases_Bool, eq-eqb, le-leb, lt-ltb, ne_eqb}
use Rattle.std.proofs.lemmas.List.{drop_all, length-append, map-append, take_all}
use Rattle.spe_model.specs.Journal.{numbers_from}
use Rattle.spe_model.specs.Paging.{Paging}
use Rattle.spe_frame.specs.Times.{times}
use Rattle.spe_frame.proofs.TimesLemmas.{here, same_or_not, there, times-append}
use Rattle.spe_rewrite.specs.declared.change.Change.{Change}
use Rattle.spe_rewrite.specs.Changes.{changed}
use Rattle.spe_convert.specs.Changes.{added, before, first_trunks_of, other_trunks_of, prepared_changes, supply, trunks_dealt}
use Rattle.spe_convert.specs.Dealt.{first_of, freed_at, made_at, made_of}
use Rattle.spe_convert.specs.Made.{changed_pages, dealt_pages, heads}
use Rattle.spe_convert.specs.Reading.{are_ascending}
use Rattle.spe_convert.specs.Trunk.{Trunk, bare, room}
use Rattle.spe_convert.proofs.AscendLemmas.{Rise, first_ascends}
use Rattle.spe_convert.proofs.DealtLemmas.{bare_heads, dealt_heads}
use Rattle.spe_convert.proofs.ListLemmas.{heads_changed, numbers_length}

-- numbers from above a bound ascend
numbers_ascend : (k m below top : ℕ) → below < k → k + m ≤ top + 1 → are_ascending below top (numbers_from k m) ≡ true
numbers_ascend k zero below top low high = refl
numbers_ascend k (suc m) below top low high =
    let inside : k ≤ top = omega (arith, high) in
    rw (lt-ltb below k low, le-leb k top inside, numbers_ascend (k + 1) m k top (omega arith) (omega (arith, high))) refl

both_ascend : (below count more : ℕ) (free : List ℕ) → below ≤ count → are_ascending below count free ≡ true → are_ascending below (count + more) (free ++ numbers_from (count + 1) more) ≡ true
both_ascend below count more [] low is = numbers_ascend (count + 1) more below (count + more) (omega (arith, low)) (omega arith)
both_ascend below count more (n ∷ ns) low is =
    let f = first_ascends below count n ns is in
    let high : n ≤ count + more = omega (arith, f.1) in
    rw (lt-ltb below n f.0, le-leb n (count + more) high, both_ascend n count more ns f.1 f.2) refl

-- the free pages and the new ones ascend
pub supply_ascends : (count lists : ℕ) (free : List ℕ) → 1 ≤ count → are_ascending 1 count free ≡ true → are_ascending 1 (count + added count lists free) (supply count lists free) ≡ true
supply_ascends count lists free some is = both_ascend 1 count (added count lists free) free some is

rise_lower : (below low : ℕ) (ns : List ℕ) → low ≤ below → Rise below ns → Rise low ns
rise_lower below low [] le rise = tt
rise_lower below low (n ∷ ns) le rise = (omega (arith, le, rise.0), rise.1)

pub rise_lacks : (below n : ℕ) (ns : List ℕ) → n ≤ below → Rise below ns → times n ns ≡ 0
rise_lacks below n [] low rise = refl
rise_lacks below n (m ∷ ms) low rise =
    let at = there n m ms (λ (e : n ≡ m). let up = rise.0 in absurd (omega (arith, e, up, low))) in
    let rest = rise_lacks m n ms (let up = rise.0 in omega (arith, up, low)) rise.1 in
    omega (arith, at, rest)

-- the trunk that is made of a page, where one is, is this page
made_one : (most k p : ℕ) (ts : List Trunk) → (heads (made_at most k p ts) ≡ []) ⊎ (heads (made_at most k p ts) ≡ p ∷ [])
made_one most k p [] = inl refl
made_one most zero p (t ∷ ts) = ⊎_elim
    (λ (e : nat_lt (length t.leaves) most ≡ true). inl (rw e refl))
    (λ e. inr (rw e refl))
    (cases_Bool (nat_lt (length t.leaves) most))
made_one most (suc k) p (t ∷ ts) = made_one most k p ts

-- the other trunks ascend as the pages do
made_rise : (most lists j : ℕ) (firsts : List Trunk) (below top : ℕ) (ps : List ℕ) → are_ascending below top ps ≡ true → Rise below (heads (made_of most lists j firsts ps))
made_rise most lists j firsts below top [] is = tt
made_rise most lists j firsts below top (p ∷ ps) is =
    let f = first_ascends below top p ps is in
    let mine = made_at most (j % lists) p firsts in
    let later = made_of most lists (j + 1) (freed_at most (j % lists) p firsts) ps in
    let rest : Rise p (heads later) = made_rise most lists (j + 1) (freed_at most (j % lists) p firsts) p top ps f.2 in
    let both : heads (mine ++ later) ≡ heads mine ++ heads later = map-append (λ (t : Trunk). t.page) mine later in
    subst (Rise below) (sym both)
    (⊎_elim
    (λ (e : heads mine ≡ []). subst (λ (hs : List ℕ). Rise below (hs ++ heads later)) (sym e) (rise_lower p below (heads later) (omega (arith, f.0)) rest))
    (λ (e : heads mine ≡ p ∷ []). subst (λ (hs : List ℕ). Rise below (hs ++ heads later)) (sym e) (f.0, rest))
    (made_one most (j % lists) p firsts))

take_rise : (lists below top : ℕ) (ps others : List ℕ) → are_ascending below top ps ≡ true → ((b : ℕ) → are_ascending b top (drop lists ps) ≡ true → Rise b others)
    → Rise below (take lists ps ++ others)
take_rise zero below top ps others is rest = rest below is
take_rise (suc lists) below top [] others is rest = rest below refl
take_rise (suc lists) below top (p ∷ ps) others is rest =
    let f = first_ascends below top p ps is in
    (f.0, take_rise lists p top ps others f.2 rest)

-- so do the node page, the first trunks and the others
pub dealt_rise : (most lists top : ℕ) (all : List ℕ) → 1 ≤ length all → are_ascending 1 top all ≡ true → Rise 1 (dealt_pages most lists all)
dealt_rise most lists top [] some is = absurd (omega (arith, some))
dealt_rise most lists top (p ∷ ps) some is =
    let f = first_ascends 1 top p ps is in
    let next : lists + 1 ≡ suc lists = omega arith in (
      f.0,
      take_rise lists p top ps (heads (other_trunks_of most lists (p ∷ ps))) f.2
          (λ b left. made_rise most lists 0 (map bare (take lists ps)) b top (drop (lists + 1) (p ∷ ps)) (subst (λ (n : ℕ). are_ascending b top (drop n (p ∷ ps)) ≡ true) (sym next) left)),
    )

-- the pages of all trunks
pub trunks_heads : (most lists : ℕ) (all : List ℕ) → heads (trunks_dealt most lists all) ≡ take lists (drop 1 all) ++ heads (other_trunks_of most lists all)
trunks_heads most lists all =
    let fp = take lists (drop 1 all) in
    let firsts = first_trunks_of most lists all in
    let others = other_trunks_of most lists all in
    map-append (λ (t : Trunk). t.page) firsts others
    ∙ ap (λ (hs : List ℕ). hs ++ heads others) (dealt_heads most lists 0 (map bare fp) (drop (lists + 1) all) ∙ bare_heads fp)

-- the pages that change
pub pages_changed : (size usable count lists : ℕ) (free : List ℕ) (pages : Paging)
    → changed_pages (prepared_changes size usable count lists free pages) ≡ 1 ∷ dealt_pages (room usable) lists (supply count lists free)
pages_changed size usable count lists free pages =
    let all = supply count lists free in
    let ts = trunks_dealt (room usable) lists all in
    ap (λ (hs : List ℕ). 1 ∷ first_of all ∷ hs) (heads_changed usable (before size count pages) ts ∙ trunks_heads (room usable) lists all)

numbers_has : (k m n : ℕ) → k ≤ n → n < k + m → 0 < times n (numbers_from k m)
numbers_has k zero n low high = absurd (omega (arith, low, high))
numbers_has k (suc m) n low high = ⊎_elim
    (λ (e : n ≡ k). let at = here n k (numbers_from (k + 1) m) e in omega (arith, at))
    (λ (e : n ≢ k). let at = there n k (numbers_from (k + 1) m) e in let rest = numbers_has (k + 1) m n (omega (arith, low, e)) (omega (arith, high)) in omega (arith, at, rest))
    (same_or_not n k)

-- a page that changes has other bytes
pub some_laid : (cs : List Change) (n : ℕ) → 0 < times n (changed_pages cs) → is_some (changed cs n) ≡ true
some_laid [] n some = absurd (omega (arith, some))
some_laid (c ∷ cs) n some = ⊎_elim
    (λ (e : n ≡ c.page). rw (eq-eqb n c.page e) refl)
    (λ (e : n ≢ c.page). rw (ne_eqb n c.page e) (some_laid cs n (let at = there n c.page (changed_pages cs) e in omega (arith, at, some))))
    (same_or_not n c.page)

-- where all pages are the node page and first trunks, all of them change
all_dealt : (most lists : ℕ) (all : List ℕ) → length all ≡ lists + 1 → dealt_pages most lists all ≡ all
all_dealt most lists [] long = absurd (omega (arith, long))
all_dealt most lists (p ∷ ps) long =
    let none : drop (lists + 1) (p ∷ ps) ≡ [] = drop_all (lists + 1) (p ∷ ps) (omega (arith, long)) in
    let whole : take lists ps ≡ ps = take_all lists ps (omega (arith, long)) in
    ap (λ (qs : List ℕ). p ∷ (take lists ps ++ heads (made_of most lists 0 (map bare (take lists ps)) qs))) none
    ∙ ap (λ (qs : List ℕ). p ∷ qs) (append-nil (take lists ps) ∙ whole)

-- each page that is added changes
pub added_changed : (size usable count lists : ℕ) (free : List ℕ) (pages : Paging) (p : ℕ) → count < p → p ≤ count + added count lists free
    → is_some (changed (prepared_changes size usable count lists free pages) p) ≡ true
added_changed size usable count lists free pages p low high =
    let more = added count lists free in
    let all = supply count lists free in
    let cs = prepared_changes size usable count lists free pages in
    let a = length-append free (numbers_from (count + 1) more) in
    let b = numbers_length (count + 1) more in
    let long : length all ≡ lists + 1 = omega (arith, a, b, low, high) in
    let are : changed_pages cs ≡ 1 ∷ all = pages_changed size usable count lists free pages ∙ ap (λ (ps : List ℕ). 1 ∷ ps) (all_dealt (room usable) lists all long) in
    let has = numbers_has (count + 1) more p (omega (arith, low)) (omega (arith, high)) in
    let c = times-append p free (numbers_from (count + 1) more) in
    let some : 0 < times p (1 ∷ all) = omega (arith, has, c) in
    some_laid cs p (subst (λ (ps : List ℕ). 0 < times p ps) (sym are) some)
