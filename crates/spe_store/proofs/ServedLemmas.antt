-- What is said of the pages, with one entry more in the list of commits.
use Rattle.std.proofs.Common.{◌≡◌, ℕ, ◌+◌, ◌*◌, ◌<◌, ◌≤◌, List, [], ◌∷◌, ◌++◌, length, take, get_or, refl, sym, ap, ◌∙◌, subst, arith, true, Option, Some, None, ⊎_elim}
use Rattle.std.specs.Prelude.{is_some, unwrap_or}
use Rattle.std.proofs.Common.{get_or-drop}
use Rattle.std.proofs.lemmas.Bool.{cases_lt}
use Rattle.std.proofs.lemmas.List.{get_or-take, length-append, length-map, take-append-le, take_all}
use Rattle.std.proofs.lemmas.List.Elements.{All-weaker}
use Rattle.spe_model.specs.Big.{u32_at}
use Rattle.spe_model.specs.Database.{Database}
use Rattle.spe_model.specs.Justified.{Justified, ServedSince}
use Rattle.spe_model.specs.Meaning.{result_of}
use Rattle.spe_model.specs.Paging.{Agrees, PageMap, lay}
use Rattle.spe_model.specs.Settled.{page_in}
use Rattle.spe_model.specs.Trace.{History}
use Rattle.spe_crash.proofs.NumbersLemmas.{pages_to-length}
use Rattle.spe_transactions.specs.Commits.{pages_after}
use Rattle.spe_transactions.specs.Kept.{WorkKept}
use Rattle.spe_transactions.specs.Pages.{MayCommit, laid_pages, named_count, page_at}
use Rattle.spe_transactions.specs.Work.{Works}
use Rattle.spe_transactions.proofs.CommitsLemmas.{after_all}
use Rattle.spe_transactions.proofs.GrowthLemmas.{saying_changes}
use Rattle.spe_transactions.proofs.PageLemmas.{is_at, page_counted, page_there}
use Rattle.spe_store.specs.Opened.{Opened}
use Rattle.spe_store.specs.Served.{AreServed, Entry, Says, asked_of, commit_of, commits_of, database_after, pages_of}
use Rattle.spe_store.specs.Store.{AreSeen}

database_more : (db : Database) (es : List Entry) (e : Entry) → database_after db (es ++ e ∷ []) ≡ result_of (database_after db es) e.log.body
database_more db [] e = refl
database_more db (x ∷ xs) e = database_more (result_of db x.log.body) xs e

pub commits_more : (es : List Entry) (e : Entry) → commits_of (es ++ e ∷ []) ≡ commits_of es ++ commit_of e ∷ []
commits_more [] e = refl
commits_more (x ∷ xs) e = ap (λ cs. commit_of x ∷ cs) (commits_more xs e)

pub commits_long : (es : List Entry) → length (commits_of es) ≡ length es
commits_long es = length-map es commit_of

u32_bytes : (bytes : List ℕ) → u32_at bytes 28 ≡ ((get_or bytes 28 0 * 256 + get_or bytes 29 0) * 256 + get_or bytes 30 0) * 256 + get_or bytes 31 0
unfolding u32_at
u32_bytes bytes = rw (get_or-drop 28 bytes 0 0, get_or-drop 28 bytes 1 0, get_or-drop 28 bytes 2 0, get_or-drop 28 bytes 3 0) (omega arith)

named_is : (bytes : List ℕ) → named_count bytes ≡ u32_at bytes 28
named_is bytes =
    u32_bytes (take 100 bytes)
    ∙ rw (get_or-take 100 bytes 28 0 (omega arith), get_or-take 100 bytes 29 0 (omega arith), get_or-take 100 bytes 30 0 (omega arith), get_or-take 100 bytes 31 0 (omega arith)) refl
    ∙ sym (u32_bytes bytes)

-- pages that are served stay so with what a transaction wrote laid over them, whose replies are right
module _ (opened : Opened) (pages : List (List ℕ)) (written : PageMap) (page_size : ℕ) (may : MayCommit pages written page_size) (e : Entry) (seen : ℕ → List (List ℕ)) (right : Justified opened.read (asked_of e.log) seen written)
    (sees : AreSeen pages seen) (some : 1 ≤ length pages) (db : Database) (a : AreServed opened.read pages db) where
  agrees : Agrees a.paging seen
  agrees = record { each = λ n. All-weaker (λ bytes. page_at pages n ≡ Some bytes) (λ bytes. a.paging n ≡ bytes) (λ bytes found. a.gives n bytes found) (seen n) (sees n) }

  low_same : (p : ℕ) → 1 ≤ p → p ≤ length pages → lay written (page_in pages) p ≡ lay written a.paging p
  low_same p low high = ap (unwrap_or (written p)) (sym (a.gives p (page_in pages p) (page_there pages p low high)))

  laid_same : (p : ℕ) → 1 ≤ p → p ≤ named_count (lay written (page_in pages) 1) → lay written (page_in pages) p ≡ lay written a.paging p
  laid_same p low high = ⊎_elim
      (λ (above : length pages < p). by_found (written p) (may.added p above high))
      (λ (below : p ≤ length pages). low_same p low below)
      (cases_lt (length pages) p)
    where
      by_found : (found : Option (List ℕ)) → is_some found ≡ true → unwrap_or found (page_in pages p) ≡ unwrap_or found (a.paging p)
      by_found None lacks = absurd cc
      by_found (Some bytes) has = refl

  long : length (laid_pages pages written) ≡ u32_at (lay written a.paging 1) 28
  long =
      pages_to-length (lay written (page_in pages)) (named_count (lay written (page_in pages) 1))
      ∙ named_is (lay written (page_in pages) 1)
      ∙ ap (λ (bytes : List ℕ). u32_at bytes 28) (low_same 1 (omega arith) some)

  pub laid_served : AreServed opened.read (laid_pages pages written) (result_of db e.log.body)
  laid_served = record {
    paging = lay written a.paging;
    gives = λ p bytes found.
        let at = is_at (laid_pages pages written) p bytes found in
        let high : p ≤ named_count (lay written (page_in pages) 1) = subst (λ (n : ℕ). p ≤ n) (pages_to-length (lay written (page_in pages)) (named_count (lay written (page_in pages) 1))) at.high in
        let both : Some bytes ≡ Some (lay written (page_in pages) p) = sym found ∙ page_counted (lay written (page_in pages)) (named_count (lay written (page_in pages) 1)) p at.low high in
        let is : bytes ≡ lay written (page_in pages) p = cc in
        sym (is ∙ laid_same p at.low high);
    served =
        subst (λ (n : ℕ). ServedSince opened.read n (lay written a.paging) (result_of db e.log.body)) (sym long)
        (right.left (length pages) a.paging db a.served agrees);
  }

-- what is said of the pages after all entries
pub says_all : (opened : Opened) (es : List Entry) (h : History) (journalled written : Works) → WorkKept (Says opened es) opened.pages h (commits_of es) journalled written
    → Says opened es (length es) (pages_of opened es)
says_all opened es h journalled written k =
    subst (λ (ps : List (List ℕ)). Says opened es (length es) ps) (after_all opened.pages (commits_of es))
    (subst (λ (n : ℕ). Says opened es n (pages_after opened.pages (commits_of es) (length (commits_of es)))) (commits_long es)
    (k.stops.meets.each (length (commits_of es)) (omega arith)))

-- what is said of the first entries stays so with one more
module _ (opened : Opened) (es : List Entry) (e : Entry) where
  says_front : (n : ℕ) → n ≤ length (commits_of es) → (pages : List (List ℕ)) → Says opened es n pages → Says opened (es ++ e ∷ []) n pages
  says_front n low pages says db served =
      let within : n ≤ length es = omega (arith, commits_long es) in
      subst (λ (front : List Entry). AreServed opened.read pages (database_after db front)) (sym (take-append-le n es (e ∷ []) within)) (says db served)

  module _ (h : History) (journalled written : Works) (k : WorkKept (Says opened es) opened.pages h (commits_of es) journalled written) where
    -- the work so far, of which is said what will be said of it
    pub work_more : WorkKept (Says opened (es ++ e ∷ [])) opened.pages h (commits_of es) journalled written
    work_more = record { stops = saying_changes (Says opened es) (Says opened (es ++ e ∷ [])) opened.pages h (commits_of es) k.stops says_front; work = k.work }

    pub says_now : (db : Database) → AreServed opened.read opened.pages db → AreServed opened.read (pages_of opened es) (database_after db es)
    says_now db first =
        subst (λ (ps : List (List ℕ)). AreServed opened.read ps (database_after db es)) (after_all opened.pages (commits_of es))
        (subst (λ (front : List Entry). AreServed opened.read (pages_after opened.pages (commits_of es) (length (commits_of es))) (database_after db front)) (take_all (length (commits_of es)) es (omega (arith, commits_long es)))
        (k.stops.meets.each (length (commits_of es)) (omega arith) db first))

    pub says_last : (id page_size : ℕ) (seen : ℕ → List (List ℕ)) → MayCommit (pages_of opened es) (written id) page_size → Justified opened.read (asked_of e.log) seen (written id)
        → AreSeen (pages_of opened es) seen → 1 ≤ length (pages_of opened es) → Says opened (es ++ e ∷ []) (length (commits_of es) + 1) (laid_pages (pages_of opened es) (written id))
    says_last id page_size seen may right sees some db first =
        let all : take (length (commits_of es) + 1) (es ++ e ∷ []) ≡ es ++ e ∷ [] = take_all (length (commits_of es) + 1) (es ++ e ∷ []) (omega (arith, commits_long es, length-append es (e ∷ []))) in
        subst (λ (d : Database). AreServed opened.read (laid_pages (pages_of opened es) (written id)) d) (sym (ap (database_after db) all ∙ database_more db es e))
        (laid_served opened (pages_of opened es) (written id) page_size may e seen right sees some (database_after db es) (says_now db first))
