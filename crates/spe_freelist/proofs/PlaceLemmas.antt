-- What a call leaves of the lists, over whatever pages are below the space.
use Rattle.std.proofs.Common.{◌≡◌, ◌≢◌, ◌⊎◌, ℕ, ◌+◌, ◌^◌, ◌<◌, ◌≤◌, ◌∙◌, List, refl, sym, ap, subst, ⊎_elim, arith, Option, Some, unwrap_or}
use Rattle.std.specs.Prelude.{Result, Ok, Err, IfOk, OnErr, OnOk}
use Rattle.spe_model.specs.FreeList.{leaves_of, next_trunk}
use Rattle.spe_model.specs.Paging.{Agrees, Paging}
use Rattle.spe_space.specs.declared.fault.TreeFault.{TreeFault}
use Rattle.spe_space.specs.declared.pages.Pages.{Ghosts}
use Rattle.spe_space.specs.Calls.{sight}
use Rattle.spe_space.specs.Free.{IsLaterPage, IsNew}
use Rattle.spe_space.specs.Front.{number_in, recounted}
use Rattle.spe_frame.specs.Times.{times}
use Rattle.spe_frame.proofs.TimesLemmas.{holds_from_all}
use Rattle.spe_freelist.specs.Lists.{Trunk, freed, list_of, taken}
use Rattle.spe_freelist.specs.Place.{LeavesLists, ListsStay, MayBeGiven, Place, TakesPage, WhereListed, trunks_of}
use Rattle.spe_freelist.specs.Trunk.{fifteen}
use Rattle.spe_freelist.specs.Steps.{Gave, GivesLeaf, GivesTrunk, LeavesAlone, TakesLeaf, TakesNew, TakesTrunk, Took}
use Rattle.spe_freelist.proofs.CaseLemmas.{Left, Shown, beside_grown, beside_same, shown, whole_of}
use Rattle.spe_freelist.proofs.RelistLemmas.{Beside, begins, own_within}
use Rattle.spe_freelist.proofs.TakeLemmas.{IsTaken, gives_leaf, gives_trunk, lists_kept, takes_leaf, takes_new, takes_trunk}

-- a page that was put is seen so, and one that was not is seen as before
put_seen : {P : Type 0} (g : Ghosts P) (s : P) (pages : Paging) (n : ℕ) (bytes : List ℕ) → g.laid s n ≡ Some bytes → sight g s pages n ≡ bytes
put_seen g s pages n bytes put = ap (λ (o : Option (List ℕ)). unwrap_or o (pages n)) put

same_seen : {P : Type 0} (g : Ghosts P) (old new : P) (pages : Paging) (n : ℕ) → g.laid new n ≡ g.laid old n → sight g new pages n ≡ sight g old pages n
same_seen g old new pages n same = ap (λ (o : Option (List ℕ)). unwrap_or o (pages n)) same

-- the pages of the lists are from page 2 to the number of pages, and so is the first trunk
pub listed_later : {P : Type 0} (g : Ghosts P) (s : P) (pages : Paging) (first : ℕ) (place : Place g s pages first) → (n : ℕ) → 0 < times n place.listed → IsLaterPage (number_in (sight g s pages)) n
listed_later g s pages first place = holds_from_all (IsLaterPage (number_in (sight g s pages))) place.listed place.lists.within

pub first_listed : {P : Type 0} (g : Ghosts P) (s : P) (pages : Paging) (first : ℕ) (place : Place g s pages first) → 0 < times place.own.first place.listed
first_listed g s pages first place =
    let whole = whole_of (g.used s) (sight g s pages) place.before place.own place.after place.listed place.lists in
    omega (arith, begins (g.used s) (sight g s pages) place.own whole.1 whole.0, own_within (g.used s) (sight g s pages) place.before place.own place.after place.listed place.lists place.own.first)

abbrev as_lists : {P : Type 0} (g : Ghosts P) (old new : P) (pages : Paging) (first : ℕ) (place : Place g old pages first) (trunks : List Trunk)
    → (left : Left (g.used old) (sight g old pages) (sight g new pages) place.before place.own place.after place.listed trunks) → LeavesLists g old new pages first place trunks
as_lists g old new pages first place trunks left = record {
  own = left.own';
  listed = left.again.listed';
  first_is = left.first_is ∙ place.first_is;
  lists = left.again.lists;
  own_is = left.own_is;
  others = left.again.others;
}

as_taken : {P : Type 0} (g : Ghosts P) (old new : P) (pages : Paging) (first page : ℕ) (place : Place g old pages first)
    → IsTaken (g.used old) (number_in (sight g old pages)) (sight g old pages) (sight g new pages) place.before place.own place.after place.listed page
    → TakesPage g old new pages first page place
as_taken g old new pages first page place is = record {
  left = as_lists g old new pages first place (taken (number_in (sight g old pages)) (trunks_of g old pages place)) is.left;
  page_is = is.page_is;
  gone = is.gone;
}

-- page 1 and all lists but this are as they were, where only the first trunk is put
beside_put : {P : Type 0} (g : Ghosts P) (old new : P) (pages : Paging) (first : ℕ) (place : Place g old pages first)
    → ((n : ℕ) → n ≢ place.own.first → g.laid new n ≡ g.laid old n) → Beside (sight g old pages) (sight g new pages) place.own.first place.listed
beside_put g old new pages first place others =
    let low = (listed_later g old pages first place place.own.first (first_listed g old pages first place)).0 in
    beside_same (sight g old pages) (sight g new pages) place.own.first place.listed place.lists.legal
    (same_seen g old new pages 1 (others 1 (λ (e : 1 ≡ place.own.first). absurd (omega (arith, e, low)))))
    (λ n some other. same_seen g old new pages n (others n other))

pub took_lists : {P : Type 0} (g : Ghosts P) (old new : P) (pages : Paging) (first page : ℕ) → 480 ≤ g.used old → g.stands old pages → (place : Place g old pages first)
    → Took g old new pages first page → TakesPage g old new pages first page place
took_lists g old new pages first page least stands place took =
    ⊎_elim leaf (λ (more : TakesTrunk g old new pages own page ⊎ TakesNew g old new pages own page). ⊎_elim trunk fresh more)
    (subst (λ (f : ℕ). Took g old new pages f page) (sym place.first_is) took)
  where
    own : ℕ
    own = place.own.first

    a : Paging
    a = sight g old pages

    b : Paging
    b = sight g new pages

    leaf : TakesLeaf g old new pages own page → TakesPage g old new pages first page place
    leaf is = as_taken g old new pages first page place (takes_leaf (g.used old) (number_in a) a b place.before place.own place.after place.listed page place.lists
        (beside_put g old new pages first place is.put.others) is.some is.page_is
        (shown (g.used old) _ _ _ is.put.bytes b own is.put.is (put_seen g new pages own is.put.bytes is.put.there)))

    trunk : TakesTrunk g old new pages own page → TakesPage g old new pages first page place
    trunk is = as_taken g old new pages first page place
        (subst (λ (p : ℕ). IsTaken (g.used old) (number_in a) a b place.before place.own place.after place.listed p) (sym is.page_is)
        (takes_trunk (g.used old) (number_in a) a b place.before place.own place.after place.listed place.lists
        (beside_put g old new pages first place is.put.others) is.none (omega (arith, is.some, is.page_is))
        (subst (λ (p : ℕ). Shown b own (next_trunk a p) (leaves_of a p)) is.page_is
        (shown (g.used old) _ _ _ is.put.bytes b own is.put.is (put_seen g new pages own is.put.bytes is.put.there)))))

    fresh : TakesNew g old new pages own page → TakesPage g old new pages first page place
    fresh is =
        let grown = is.grown in
        let number = number_in a in
        let page_is = grown.numbered stands in
        let later = listed_later g old pages first place in
        let here = later own (first_listed g old pages first place) in
        let fifteen_more : page + 15 ≡ number + 16 = omega (arith, page_is) in
        let front : b 1 ≡ recounted (number + 16) (a 1) =
        put_seen g new pages 1 (recounted (page + 15) (a 1)) (grown.front (λ (e : own ≡ 1). absurd (omega (arith, e, here.0)))) ∙ ap (λ (n : ℕ). recounted n (a 1)) fifteen_more in
        let beside = beside_grown a b own (number + 16) place.listed place.lists.legal front (omega (arith, fifteen_more, grown.small)) (omega arith)
        (λ n some other. let at = later n some in same_seen g old new pages n (grown.others n other (λ (e : n ≡ 1). absurd (omega (arith, e, at.0))) (λ (new : IsNew page n). absurd (omega (arith, new.0, at.1, page_is))))) in
        as_taken g old new pages first page place
        (subst (λ (p : ℕ). IsTaken (g.used old) number a b place.before place.own place.after place.listed p) (sym page_is)
        (takes_new (g.used old) number a b place.before place.own place.after place.listed place.lists beside.0 refl beside.1 least is.none is.last
        (subst (λ (p : ℕ). Shown b own 0 (fifteen p)) page_is
        (shown (g.used old) _ _ _ grown.bytes b own grown.is (put_seen g new pages own grown.bytes grown.there)))))

-- a call that fails leaves the lists
pub left_alone : {P : Type 0} (g : Ghosts P) (old new : P) (pages : Paging) (first : ℕ) (place : Place g old pages first) → g.count new < 2 ^ 32
    → LeavesAlone g old new pages → ListsStay g old new pages first place
left_alone g old new pages first place small alone =
    let a = sight g old pages in
    let b = sight g new pages in
    let later = listed_later g old pages first place in
    let stays : (n : ℕ) → 0 < times n place.listed → b n ≡ a n = λ n some. (let at = later n some in
    same_seen g old new pages n (alone.others n (λ (e : n ≡ 1). absurd (omega (arith, e, at.0))) at.1)) in
    let beside : Beside a b place.own.first place.listed = ⊎_elim
    (λ (same : g.laid new 1 ≡ g.laid old 1). beside_same a b place.own.first place.listed place.lists.legal (same_seen g old new pages 1 same) (λ n some other. stays n some))
    (λ (fits : number_in a + 16 ≤ g.count new). ⊎_elim
    (λ (same : g.laid new 1 ≡ g.laid old 1). beside_same a b place.own.first place.listed place.lists.legal (same_seen g old new pages 1 same) (λ n some other. stays n some))
    (λ (more : g.laid new 1 ≡ Some (recounted (number_in a + 16) (a 1))). (beside_grown a b place.own.first (number_in a + 16) place.listed place.lists.legal
    (put_seen g new pages 1 (recounted (number_in a + 16) (a 1)) more) (omega (arith, fits, small)) (omega arith) (λ n some other. stays n some)).0)
    alone.front)
    alone.counted in
    as_lists g old new pages first place (trunks_of g old pages place) (lists_kept (g.used old) a b place.before place.own place.after place.listed place.lists beside stays)

pub gave_lists : {P : Type 0} (g : Ghosts P) (old new : P) (pages : Paging) (first page : ℕ) (place : Place g old pages first) → MayBeGiven g old pages first page place
    → Gave g old new pages first page → LeavesLists g old new pages first place (freed (g.used old) page (trunks_of g old pages place))
gave_lists g old new pages first page place may gave =
    as_lists g old new pages first place (freed (g.used old) page (trunks_of g old pages place))
    (⊎_elim leaf trunk (subst (λ (f : ℕ). Gave g old new pages f page) (sym place.first_is) gave))
  where
    own : ℕ
    own = place.own.first

    a : Paging
    a = sight g old pages

    b : Paging
    b = sight g new pages

    leaf : GivesLeaf g old new pages own page → Left (g.used old) a b place.before place.own place.after place.listed (freed (g.used old) page (list_of a place.own))
    leaf is =
        let beside = beside_put g old new pages first place is.put.others in
        gives_leaf (g.used old) a b place.before place.own place.after place.listed page place.lists beside may.unlisted
        (may.placed.0, omega (arith, may.placed.1, beside.more)) is.room
        (shown (g.used old) _ _ _ is.put.bytes b own is.put.is (put_seen g new pages own is.put.bytes is.put.there))

    trunk : GivesTrunk g old new pages own page → Left (g.used old) a b place.before place.own place.after place.listed (freed (g.used old) page (list_of a place.own))
    trunk is =
        let has = first_listed g old pages first place in
        let low = (listed_later g old pages first place own has).0 in
        let other : page ≢ own = λ (e : page ≡ own). absurd (omega (arith, has, may.unlisted, ap (λ (n : ℕ). times n place.listed) e)) in
        let beside = beside_same a b own place.listed place.lists.legal
        (same_seen g old new pages 1 (is.put.others 1 (λ (e : 1 ≡ own). absurd (omega (arith, e, low))) (λ (e : 1 ≡ page). absurd (omega (arith, e, may.placed.0)))))
        (λ n some not_own. same_seen g old new pages n (is.put.others n not_own (λ (e : n ≡ page). absurd (omega (arith, some, may.unlisted, ap (λ (m : ℕ). times m place.listed) e))))) in
        gives_trunk (g.used old) a b place.before place.own place.after place.listed page place.lists beside may.unlisted
        (may.placed.0, omega (arith, may.placed.1, beside.more)) is.full is.room
        (shown (g.used old) _ _ _ is.put.head b own is.put.first_is (put_seen g new pages own is.put.head is.put.first_there))
        (shown (g.used old) _ _ _ is.put.bytes b page is.put.is (put_seen g new pages page is.put.bytes (is.put.there other)))

-- a page that is not given leaves the lists
pub not_given : {P : Type 0} (g : Ghosts P) (old new : P) (pages : Paging) (first page : ℕ) (place : Place g old pages first) → MayBeGiven g old pages first page place
    → ((n : ℕ) → n ≢ page → g.laid new n ≡ g.laid old n) → ListsStay g old new pages first place
not_given g old new pages first page place may others =
    let a = sight g old pages in
    let b = sight g new pages in
    let stays : (n : ℕ) → 0 < times n place.listed → b n ≡ a n = λ n some.
    same_seen g old new pages n (others n (λ (e : n ≡ page). absurd (omega (arith, some, may.unlisted, ap (λ (m : ℕ). times m place.listed) e)))) in
    let beside = beside_same a b place.own.first place.listed place.lists.legal
    (same_seen g old new pages 1 (others 1 (λ (e : 1 ≡ page). absurd (omega (arith, e, may.placed.0))))) (λ n some other. stays n some) in
    as_lists g old new pages first place (trunks_of g old pages place) (lists_kept (g.used old) a b place.before place.own place.after place.listed place.lists beside stays)

-- the same of an answer
pub taken_of : {P : Type 0} (g : Ghosts P) (old new : P) (first : ℕ) (result : Result ℕ TreeFault) → OnOk result (480 ≤ g.used old)
    → IfOk result (λ page. (pages : Paging) → Agrees pages (g.seen new) → Took g old new pages first page)
    → IfOk result (λ page. WhereListed g old new first (λ pages place. TakesPage g old new pages first page place))
taken_of g old new first (Ok page) least took = λ pages agrees stands place. took_lists g old new pages first page least stands place (took pages agrees)
taken_of g old new first (Err fault) least took = tt

pub stay_of : {P X : Type 0} (g : Ghosts P) (old new : P) (first : ℕ) (result : Result X TreeFault) → g.count new < 2 ^ 32
    → OnErr result ((pages : Paging) → Agrees pages (g.seen new) → g.stands old pages → LeavesAlone g old new pages)
    → OnErr result (WhereListed g old new first (λ pages place. ListsStay g old new pages first place))
stay_of g old new first (Ok x) small alone = tt
stay_of g old new first (Err fault) small alone = λ pages agrees stands place. left_alone g old new pages first place small (alone pages agrees stands)

pub freed_of : {P X : Type 0} (g : Ghosts P) (old new : P) (first page : ℕ) (result : Result X TreeFault)
    → OnOk result ((pages : Paging) → Agrees pages (g.seen new) → Gave g old new pages first page)
    → OnOk result (WhereListed g old new first (λ pages place. MayBeGiven g old pages first page place
    → LeavesLists g old new pages first place (freed (g.used old) page (trunks_of g old pages place))))
freed_of g old new first page (Ok x) gave = λ pages agrees stands place may. gave_lists g old new pages first page place may (gave pages agrees)
freed_of g old new first page (Err fault) gave = tt

pub unfreed_of : {P X : Type 0} (g : Ghosts P) (old new : P) (first page : ℕ) (result : Result X TreeFault)
    → OnErr result ((n : ℕ) → n ≢ page → g.laid new n ≡ g.laid old n)
    → OnErr result (WhereListed g old new first (λ pages place. MayBeGiven g old pages first page place → ListsStay g old new pages first place))
unfreed_of g old new first page (Ok x) others = tt
unfreed_of g old new first page (Err fault) others = λ pages agrees stands place may. not_given g old new pages first page place may others
