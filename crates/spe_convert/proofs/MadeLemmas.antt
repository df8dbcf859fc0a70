-- The pages that change where free pages are put in server form, as they are made.
use Rattle.std.proofs.Common.{◌≡◌, ◌∙◌, ℕ, zero, suc, ◌+◌, ◌-◌, ◌%◌, ◌<◌, ◌≤◌, List, [], ◌∷◌, ◌++◌, take, drop, length, map, refl, sym, ap, subst, arith, append_assoc, true, false, All, Option, Some, None, ⊎_elim}
use Rattle.std.specs.Prelude.{get_or, nat_lt}
use Rattle.std.proofs.lemmas.Bool.{cases_Bool, ltb-true}
use Rattle.std.proofs.lemmas.List.{drop-drop, length-append, length-drop, length-take-le, map-append, take_all}
use Rattle.std.proofs.lemmas.List.Elements.{All-append, All-cons, All-head, All-nil, All-tail}
use Rattle.spe_model.specs.declared.recovery.Recovered.{Recovered}
use Rattle.spe_model.specs.Journal.{numbers_from}
use Rattle.spe_model.specs.Paging.{Paging}
use Rattle.spe_model.specs.Trace.{History}
use Rattle.spe_frame.proofs.TimesLemmas.{Each}
use Rattle.spe_rewrite.specs.declared.change.Change.{Change}
use Rattle.spe_rewrite.specs.Changes.{AreChanges}
use Rattle.spe_convert.specs.Changes.{added, before, change_of, first_trunks_of, front_page, node_change, other_trunks_of, prepared_changes, server_changes, supply}
use Rattle.spe_convert.specs.Dealt.{dealt, first_of, freed_at, made_at, made_of}
use Rattle.spe_convert.specs.Made.{HaveSize, IsWritable, change_with, changed_pages, dealt_pages, heads, named_by}
use Rattle.spe_convert.specs.Reading.{WhereHeld, are_ascending}
use Rattle.spe_convert.specs.Trunk.{Trunk, bare, freed, made, page_of, room}
use Rattle.spe_convert.proofs.AscendLemmas.{all_inside, ascend_by}
use Rattle.spe_convert.proofs.DealtLemmas.{bare_heads, dealt_heads}
use Rattle.spe_convert.proofs.ListLemmas.{each_drop, each_take, trunk_append}
use Rattle.spe_convert.proofs.PrepareLemmas.{supply_length}
use Rattle.spe_convert.proofs.SupplyLemmas.{dealt_rise, supply_ascends}
use Rattle.spe_convert.proofs.TrunkLemmas.{EachTrunk}

pub taken_off : {X : Type 0} (left : List X) (x : X) → 1 ≤ length left → x ≡ get_or left 0 x → left ≡ x ∷ take (length left - 1) (drop 1 left)
taken_off [] x some is = absurd (omega (arith, some))
taken_off (y ∷ ys) x some is =
    let all : take (length (y ∷ ys) - 1) ys ≡ ys = take_all (length (y ∷ ys) - 1) ys (omega arith) in
    ap (λ z. z ∷ ys) (sym is) ∙ ap (λ zs. x ∷ zs) (sym all)

-- one number more is put behind
pub numbers_turn : (done all : List ℕ) (i last : ℕ) → i < last → done ++ numbers_from i (last - i) ≡ all → (done ++ i ∷ []) ++ numbers_from (i + 1) (last - (i + 1)) ≡ all
numbers_turn done all i last below kept =
    let one : last - i ≡ suc (last - (i + 1)) = omega (arith, below) in
    let P : ℕ → Type 0 = λ m. done ++ numbers_from i m ≡ all in
    append_assoc done (i ∷ []) (numbers_from (i + 1) (last - (i + 1))) ∙ subst P one kept

-- one trunk more is made
pub trunk_turn : {X : Type 0} (f : Trunk → X) (left rest : List Trunk) (t : Trunk) (change : X) (done after all : List X) → left ≡ t ∷ rest → change ≡ f t → after ≡ done ++ change ∷ []
    → done ++ map f left ≡ all → after ++ map f rest ≡ all
trunk_turn {X = X} f left rest t change done after all left_is is after_is kept =
    ap (λ (cs : List X). cs ++ map f rest) after_is ∙ append_assoc done (change ∷ []) (map f rest) ∙ ap (λ (c : X). done ++ c ∷ map f rest) is
    ∙ ap (λ (ts : List Trunk). done ++ map f ts) (sym left_is) ∙ kept

pub right_first : (most : ℕ) (left rest : List Trunk) (t : Trunk) → left ≡ t ∷ rest → All (IsWritable most) left → IsWritable most t
right_first most left rest t is all = All-head (IsWritable most) t rest (subst (All (IsWritable most)) is all)

pub right_rest : (most : ℕ) (left rest : List Trunk) (t : Trunk) → left ≡ t ∷ rest → All (IsWritable most) left → All (IsWritable most) rest
right_rest most left rest t is all = All-tail (IsWritable most) t rest (subst (All (IsWritable most)) is all)

-- trunks stay such that they may be written
one_right : (most page : ℕ) (t : Trunk) → 1 ≤ page → IsWritable most t → IsWritable most (freed most page t) × EachTrunk (IsWritable most) (made most page t)
one_right most page t some right = ⊎_elim
    (λ (e : nat_lt (length t.leaves) most ≡ true).
    let low : length t.leaves < most = ltb-true (length t.leaves) most e in
    let l = length-append t.leaves (page ∷ []) in
    rw e (record { page = right.page; few = omega (arith, l, low) }, tt))
    (λ (e : nat_lt (length t.leaves) most ≡ false).
    rw e (record { page = right.page; few = omega arith }, (record { page = some; few = right.few }, tt)))
    (cases_Bool (nat_lt (length t.leaves) most))

at_right : (most k page : ℕ) (ts : List Trunk) → 1 ≤ page → EachTrunk (IsWritable most) ts
    → EachTrunk (IsWritable most) (freed_at most k page ts) × EachTrunk (IsWritable most) (made_at most k page ts)
at_right most k page [] some right = (tt, tt)
at_right most zero page (t ∷ ts) some right = let one = one_right most page t some right.0 in ((one.0, right.1), one.1)
at_right most (suc k) page (t ∷ ts) some right = let rest = at_right most k page ts some right.1 in ((right.0, rest.0), rest.1)

dealt_right : (most lists j : ℕ) (firsts : List Trunk) (ps : List ℕ) → Each (λ n. 1 ≤ n) ps → EachTrunk (IsWritable most) firsts
    → EachTrunk (IsWritable most) (dealt most lists j firsts ps) × EachTrunk (IsWritable most) (made_of most lists j firsts ps)
dealt_right most lists j firsts [] some right = (right, tt)
dealt_right most lists j firsts (p ∷ ps) some right =
    let one = at_right most (j % lists) p firsts some.0 right in
    let rest = dealt_right most lists (j + 1) (freed_at most (j % lists) p firsts) ps some.1 one.0 in
    (rest.0, trunk_append (IsWritable most) (made_at most (j % lists) p firsts) (made_of most lists (j + 1) (freed_at most (j % lists) p firsts) ps) one.1 rest.1)

bare_right : (most : ℕ) (ns : List ℕ) → Each (λ n. 1 ≤ n) ns → EachTrunk (IsWritable most) (map bare ns)
bare_right most [] some = tt
bare_right most (n ∷ ns) some = (record { page = some.0; few = omega arith }, bare_right most ns some.1)

all_trunks : (P : Trunk → Type 0) (ts : List Trunk) → EachTrunk P ts → All P ts
all_trunks P [] each = All-nil P
all_trunks P (t ∷ ts) each = All-cons P t ts each.0 (all_trunks P ts each.1)

each_of_all : (P : ℕ → Type 0) (ns : List ℕ) → All P ns → Each P ns
each_of_all P [] all = tt
each_of_all P (n ∷ ns) all = (All-head P n ns all, each_of_all P ns (All-tail P n ns all))

-- pages as they are dealt out
pub record IsDealt (usable lists : ℕ) (pages firsts : List ℕ) (page : ℕ) (trunks others : List Trunk) : Type 0 where
  pub firsts_are : firsts ≡ take lists (drop 1 pages)
  pub page_is : page ≡ first_of pages
  pub long : length firsts ≡ lists
  pub trunks_are : trunks ≡ first_trunks_of (room usable) lists pages
  pub others_are : others ≡ other_trunks_of (room usable) lists pages

first_one : (pages : List ℕ) → first_of (take 1 pages) ≡ first_of pages
first_one [] = refl
first_one (p ∷ ps) = refl

pub is_dealt : (usable lists most page : ℕ) (pages node rest firsts more : List ℕ) (trunks others slice slice_more : List Trunk) → lists + 1 ≤ length pages → node ≡ take 1 pages → rest ≡ drop 1 pages
    → firsts ≡ take lists rest → more ≡ drop lists rest → page ≡ first_of node → most ≡ room usable
    → trunks ≡ dealt most (length firsts) 0 (map bare firsts) more → others ≡ made_of most (length firsts) 0 (map bare firsts) more → slice ≡ trunks → slice_more ≡ others
    → IsDealt usable lists pages firsts page slice slice_more
is_dealt usable lists most page pages node rest firsts more trunks others slice slice_more long node_is rest_is firsts_is more_is page_is most_is trunks_is others_is slice_is slice_more_is =
    let l = length-drop 1 pages in
    let fp : firsts ≡ take lists (drop 1 pages) = firsts_is ∙ ap (take lists) rest_is in
    let n : length firsts ≡ lists = ap length fp ∙ length-take-le lists (drop 1 pages) (omega (arith, l, long)) in
    let m : more ≡ drop (lists + 1) pages = more_is ∙ ap (drop lists) rest_is ∙ drop-drop lists 1 pages ∙ ap (λ (k : ℕ). drop k pages) (let e : 1 + lists ≡ lists + 1 = omega arith in e) in
    record {
      firsts_are = fp;
      page_is = page_is ∙ ap first_of node_is ∙ first_one pages;
      long = n;
      trunks_are =
          slice_is ∙ trunks_is ∙ ap (λ (k : ℕ). dealt k (length firsts) 0 (map bare firsts) more) most_is ∙ ap (λ (k : ℕ). dealt (room usable) k 0 (map bare firsts) more) n
          ∙ ap (λ (fs : List ℕ). dealt (room usable) lists 0 (map bare fs) more) fp ∙ ap (dealt (room usable) lists 0 (map bare (take lists (drop 1 pages)))) m;
      others_are =
          slice_more_is ∙ others_is ∙ ap (λ (k : ℕ). made_of k (length firsts) 0 (map bare firsts) more) most_is ∙ ap (λ (k : ℕ). made_of (room usable) k 0 (map bare firsts) more) n
          ∙ ap (λ (fs : List ℕ). made_of (room usable) lists 0 (map bare fs) more) fp ∙ ap (made_of (room usable) lists 0 (map bare (take lists (drop 1 pages)))) m;
    }

pub dealt_right_all : (usable lists page : ℕ) (pages firsts : List ℕ) (trunks others : List Trunk) → IsDealt usable lists pages firsts page trunks others → All (λ n. 1 ≤ n) pages
    → All (IsWritable (room usable)) trunks × All (IsWritable (room usable)) others
dealt_right_all usable lists page pages firsts trunks others d all =
    let P : ℕ → Type 0 = λ n. 1 ≤ n in
    let each = each_of_all P pages all in
    let both = dealt_right (room usable) lists 0 (map bare (take lists (drop 1 pages))) (drop (lists + 1) pages) (each_drop P (lists + 1) pages each)
    (bare_right (room usable) (take lists (drop 1 pages)) (each_take P lists (drop 1 pages) (each_drop P 1 pages each))) in (
      subst (All (IsWritable (room usable))) (sym d.trunks_are) (all_trunks (IsWritable (room usable)) (first_trunks_of (room usable) lists pages) both.0),
      subst (All (IsWritable (room usable))) (sym d.others_are) (all_trunks (IsWritable (room usable)) (other_trunks_of (room usable) lists pages) both.1),
    )

pub first_some : (usable lists page : ℕ) (pages firsts : List ℕ) (trunks others : List Trunk) → IsDealt usable lists pages firsts page trunks others → lists + 1 ≤ length pages → All (λ n. 1 ≤ n) pages → 1 ≤ page
first_some usable lists page [] firsts trunks others d long all = absurd (omega (arith, long))
first_some usable lists page (p ∷ ps) firsts trunks others d long all = let one = All-head (λ n. 1 ≤ n) p ps all in let e = d.page_is in omega (arith, one, e)

pub dealt_made : (usable lists page : ℕ) (pages firsts : List ℕ) (trunks others : List Trunk) (old : Paging) (change : Change) (start a b c : List Change) → IsDealt usable lists pages firsts page trunks others
    → change ≡ named_by usable page firsts old → a ≡ start ++ change ∷ [] → b ≡ a ++ map (change_of usable old) trunks → c ≡ b ++ map (change_of usable old) others
    → c ≡ start ++ server_changes usable lists old pages
dealt_made usable lists page pages firsts trunks others old change start a b c d is a_is b_is c_is =
    let f = change_of usable old in
    let firsts_made = first_trunks_of (room usable) lists pages in
    let others_made = other_trunks_of (room usable) lists pages in
    let node : change ≡ node_change usable lists old pages =
    is ∙ ap (λ (n : ℕ). named_by usable n firsts old) d.page_is
    ∙ ap (λ (n : ℕ). change_with (first_of pages) (page_of usable (n ∷ firsts) (old (first_of pages)))) d.long
    ∙ ap (λ (fs : List ℕ). change_with (first_of pages) (page_of usable (lists ∷ fs) (old (first_of pages)))) d.firsts_are in
    c_is ∙ ap (λ (cs : List Change). cs ++ map f others) (b_is ∙ ap (λ (cs : List Change). cs ++ map f trunks) a_is)
    ∙ ap (λ (n : Change). start ++ n ∷ [] ++ map f trunks ++ map f others) node
    ∙ ap (λ (ts : List Trunk). start ++ node_change usable lists old pages ∷ [] ++ map f ts ++ map f others) d.trunks_are
    ∙ ap (λ (ts : List Trunk). start ++ node_change usable lists old pages ∷ [] ++ map f firsts_made ++ map f ts) d.others_are
    ∙ append_assoc (start ++ node_change usable lists old pages ∷ []) (map f firsts_made) (map f others_made)
    ∙ ap (λ (cs : List Change). start ++ node_change usable lists old pages ∷ [] ++ cs) (sym (map-append f firsts_made others_made))
    ∙ append_assoc start (node_change usable lists old pages ∷ []) (map f (firsts_made ++ others_made))

pub dealt_numbers : (usable lists page : ℕ) (pages firsts : List ℕ) (trunks others : List Trunk) (change : Change) (start a : List Change) (b c : List ℕ) → IsDealt usable lists pages firsts page trunks others
    → change.page ≡ page → a ≡ start ++ change ∷ [] → b ≡ changed_pages a ++ heads trunks → c ≡ b ++ heads others → c ≡ changed_pages start ++ dealt_pages (room usable) lists pages
dealt_numbers usable lists page pages firsts trunks others change start a b c d is a_is b_is c_is =
    let fp = take lists (drop 1 pages) in
    let hs = heads (other_trunks_of (room usable) lists pages) in
    let mine : heads trunks ≡ fp = ap heads d.trunks_are ∙ dealt_heads (room usable) lists 0 (map bare fp) (drop (lists + 1) pages) ∙ bare_heads fp in
    let first : changed_pages a ≡ changed_pages start ++ first_of pages ∷ [] =
    ap changed_pages a_is ∙ map-append (λ (x : Change). x.page) start (change ∷ []) ∙ ap (λ (n : ℕ). changed_pages start ++ n ∷ []) (is ∙ d.page_is) in
    c_is ∙ ap (λ (ns : List ℕ). ns ++ heads others) (b_is ∙ ap (λ (ns : List ℕ). ns ++ heads trunks) first)
    ∙ ap (λ (ns : List ℕ). changed_pages start ++ first_of pages ∷ [] ++ ns ++ heads others) mine
    ∙ ap (λ (ns : List ℕ). changed_pages start ++ first_of pages ∷ [] ++ fp ++ ns) (ap heads d.others_are)
    ∙ append_assoc (changed_pages start ++ first_of pages ∷ []) fp hs
    ∙ append_assoc (changed_pages start) (first_of pages ∷ []) (fp ++ hs)

pub dealt_sized : (size : ℕ) (change : Change) (start a b c : List Change) → length change.bytes ≡ size → a ≡ start ++ change ∷ [] → (HaveSize size a → HaveSize size b) → (HaveSize size b → HaveSize size c)
    → HaveSize size start → HaveSize size c
dealt_sized size change start a b c sized a_is first second old =
    let P : Change → Type 0 = λ d. length d.bytes ≡ size in
    second (first (subst (HaveSize size) (sym a_is) (All-append P start (change ∷ []) old (All-cons P change [] sized (All-nil P)))))

-- page 1 and those
pub server_made : (size usable count lists : ℕ) (free : List ℕ) (paging : Paging) (front : Change) (none start after result : List Change) (pages : List ℕ) → none ≡ [] → start ≡ none ++ front ∷ []
    → pages ≡ supply count lists free → front ≡ change_with 1 (front_page (count + added count lists free) (first_of pages) 0 (paging 1))
    → after ≡ start ++ server_changes usable lists (before size count paging) pages → result ≡ after → result ≡ prepared_changes size usable count lists free paging
server_made size usable count lists free paging front none start after result pages none_is start_is pages_are front_is after_is result_is =
    let one : start ≡ front ∷ [] = start_is ∙ ap (λ (cs : List Change). cs ++ front ∷ []) none_is in
    let old = before size count paging in
    result_is ∙ after_is ∙ ap (λ (cs : List Change). cs ++ server_changes usable lists old pages) one ∙ ap (λ (c : Change). c ∷ server_changes usable lists old pages) front_is
    ∙ ap (λ (ps : List ℕ). change_with 1 (front_page (count + added count lists free) (first_of ps) 0 (paging 1)) ∷ server_changes usable lists old ps) pages_are

pub server_are : (size usable count lists : ℕ) (free pages : List ℕ) (front : Change) (none start after result : List Change) → none ≡ [] → start ≡ none ++ front ∷ [] → front.page ≡ 1 → length front.bytes ≡ size
    → 1 ≤ count → are_ascending 1 count free ≡ true → pages ≡ supply count lists free → changed_pages after ≡ changed_pages start ++ dealt_pages (room usable) lists pages
    → (HaveSize size start → HaveSize size after) → result ≡ after → AreChanges size result
server_are size usable count lists free pages front none start after result none_is start_is page_is sized some ascends pages_are numbers keeps result_is =
    let all = supply count lists free in
    let P : Change → Type 0 = λ d. length d.bytes ≡ size in
    let one : start ≡ front ∷ [] = start_is ∙ ap (λ (cs : List Change). cs ++ front ∷ []) none_is in
    let are : changed_pages after ≡ 1 ∷ dealt_pages (room usable) lists all =
    numbers ∙ ap (λ (cs : List Change). changed_pages cs ++ dealt_pages (room usable) lists pages) one ∙ ap (λ (p : ℕ). p ∷ dealt_pages (room usable) lists pages) page_is
    ∙ ap (λ (ps : List ℕ). 1 ∷ dealt_pages (room usable) lists ps) pages_are in
    let long : 1 ≤ length all = let l = supply_length count lists free in omega (arith, l) in
    subst (AreChanges size) (sym result_is) (record {
      ascending = ascend_by 0 after (1 ∷ dealt_pages (room usable) lists all) are (omega arith, dealt_rise (room usable) lists (count + added count lists free) all long (supply_ascends count lists free some ascends));
      sized = keeps (subst (HaveSize size) (sym one) (All-cons P front [] sized (All-nil P)));
    })

pub supply_some : (count lists : ℕ) (free pages : List ℕ) → 1 ≤ count → are_ascending 1 count free ≡ true → pages ≡ supply count lists free → All (λ n. 1 ≤ n) pages
supply_some count lists free pages some ascends are =
    let all = all_inside (count + added count lists free) (supply count lists free) (supply_ascends count lists free some ascends) in
    subst (All (λ n. 1 ≤ n)) (sym are) (λ k d low. (all k d low).0)

pub where_three : (told : Option History) (found : Recovered) (P Q R S : Paging → Type 0) → ((paging : Paging) → P paging → Q paging → R paging → S paging) → WhereHeld told found P → WhereHeld told found Q
    → WhereHeld told found R → WhereHeld told found S
where_three None found P Q R S f p q r = tt
where_three (Some h) found P Q R S f p q r = λ paging holds. f paging (p paging holds) (q paging holds) (r paging holds)
