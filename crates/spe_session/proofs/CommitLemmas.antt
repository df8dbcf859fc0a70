-- Why what a transaction has written may be committed.
use Rattle.std.proofs.Common.{◌≡◌, ◌<◌, ◌≤◌, ◌∙◌, ℕ, List, [], ◌∷◌, All, take, option_to_list, true, Option, Some, None, refl, sym, ap, subst, arith}
use Rattle.std.specs.Prelude.{is_some, length}
use Rattle.std.specs.Option.{option_map}
use Rattle.std.proofs.lemmas.List.Elements.{All-head, All-weaker}
use Rattle.spe_model.specs.Database.{Database}
use Rattle.spe_model.specs.Justified.{Asked, Justified, Opening}
use Rattle.spe_model.specs.Paging.{Agrees, Given, PageMap, Paging}
use Rattle.spe_model.specs.Trace.{History}
use Rattle.spe_transactions.specs.Pages.{MayCommit, page_at}
use Rattle.spe_store.specs.Call.{IsNow, KeepsPages, MayEnd}
use Rattle.spe_store.specs.Event.{seen_in, written_in}
use Rattle.spe_store.specs.Opened.{Opened}
use Rattle.spe_store.specs.Served.{AreServed}
use Rattle.spe_store.specs.Store.{AreSeen, IfTold, IsOf, Store, pages_in}
use Rattle.spe_session.specs.Ending.{EndsServed, WasServed}
use Rattle.spe_session.specs.Pages.{HasFrontOf, KeepsSeen, bytes_at, front_read}
use Rattle.spe_session.specs.Working.{BeginsSo}
use Rattle.spe_session.proofs.NowLemmas.{may_end, served_now}

agrees_served : (opened : Opened) (pages : List (List ℕ)) (seen : Given) (db : Database) (a : AreServed opened.read pages db) → AreSeen pages seen → Agrees a.paging seen
agrees_served opened pages seen db a sees = record { each = λ n. All-weaker (λ (b : List ℕ). page_at pages n ≡ Some b) (λ (b : List ℕ). a.paging n ≡ b) (λ b found. a.gives n b found) (seen n) (sees n) }

pub ends_right : (opening : Opening) (asked : Asked) (seen seen' : Given) (laid written : PageMap) (number size : ℕ) → EndsServed opening asked seen laid number size → seen' ≡ seen → written ≡ laid → Justified opening asked seen' written
ends_right opening asked seen seen' laid written number size ends same laid_is =
    subst (λ (g : Given). Justified opening asked g written) (sym same)
    (subst (Justified opening asked seen) (sym laid_is) (record {
      replied = λ count pages db served agrees. (ends count pages db served agrees).replied;
      left = λ count pages db served agrees. (ends count pages db served agrees).since;
    }))

pub ends_may : (opened : Opened) (s : Store) (id : ℕ) (asked : Asked) (seen : Given) (laid : PageMap) (number size : ℕ) → WasServed opened → IsOf opened s.desk → KeepsPages opened s → s.desk.stopped ≡ None → 1 ≤ s.count
    → seen_in s.events id ≡ seen → written_in s.events id ≡ laid → s.page_size ≡ size → EndsServed opened.read asked seen laid number size → s.count ≤ number → ((p : ℕ) → s.count < p → p ≤ number → is_some (laid p) ≡ true) → MayEnd opened s id
ends_may opened s id asked seen laid number size served of keeps going some same laid_is sized ends more added = by_told s.desk.told of.first (keeps going)
  where
    by_told : (told : Option History) → option_map (λ (h : History). h.first) told ≡ opened.first → IfTold told (IsNow opened s) → IfTold told (λ h. MayCommit (pages_in opened s.events) (written_in s.events id) s.page_size)
    by_told None first now = tt
    by_told (Some h) first now =
        let pages = pages_in opened s.events in
        let both = served_now opened s h served (sym first) now in
        let a = both.1 in
        let sees : AreSeen pages seen = subst (AreSeen pages) same (now.seen id) in
        let left = ends (length pages) a.paging both.0 a.served (agrees_served opened pages seen both.0 a sees) in
        let may : MayCommit pages laid size = may_end opened pages laid size number both.0 _ a (omega (arith, some, now.counted)) left.since left.named left.sized (omega (arith, more, now.counted)) (λ p above within. added p (omega (arith, above, now.counted)) within) in
        subst (λ (n : ℕ). MayCommit pages (written_in s.events id) n) (sym sized) (subst (λ (w : PageMap). MayCommit pages w size) (sym laid_is) may)

-- all pages that agree with what was read begin as page 1 was put
pub begins_so : (clean : List (ℕ × List ℕ)) (seen : Given) (bytes : List ℕ) → KeepsSeen clean seen → HasFrontOf clean bytes → BeginsSo seen bytes
unfolding front_read
begins_so clean seen bytes keeps front = λ pages agrees. by_clean (bytes_at clean 1) refl pages (agrees.each 1)
  where
    by_clean : (o : Option (List ℕ)) → bytes_at clean 1 ≡ o → (pages : Paging) → All (λ (b : List ℕ). pages 1 ≡ b) (seen 1) → take 24 bytes ≡ take 24 (pages 1)
    by_clean None none pages all = absurd (let both : None ≡ Some (take 24 bytes) = sym (ap (option_map (take 24)) none) ∙ front in cc)
    by_clean (Some own) there pages all =
        let both : Some (take 24 own) ≡ Some (take 24 bytes) = sym (ap (option_map (take 24)) there) ∙ front in
        let same : take 24 own ≡ take 24 bytes = cc in
        let once : seen 1 ≡ own ∷ [] = keeps 1 ∙ ap option_to_list there in
        let given : All (λ (b : List ℕ). pages 1 ≡ b) (own ∷ []) = subst (λ (bs : List (List ℕ)). All (λ (b : List ℕ). pages 1 ≡ b) bs) once all in
        sym same ∙ ap (take 24) (sym (All-head (λ (b : List ℕ). pages 1 ≡ b) own [] given))
