-- The files that recovery leaves.
use Rattle.std.proofs.Common.{◌≡◌, ℕ, ◌*◌, ◌<◌, ◌≤◌, List, [], ◌++◌, length, map, refl, sym, ap, subst, ◌∙◌, Option, Some, None, Result, Ok, Err}
use Rattle.std.specs.Prelude.{IfOk}
use Rattle.spe_model.specs.declared.header.Header.{Header}
use Rattle.spe_model.specs.declared.recovery.Recovered.{Recovered}
use Rattle.spe_model.specs.declared.recovery.RecoverFault.{RecoverFault}
use Rattle.spe_model.specs.Content.{Content}
use Rattle.spe_model.specs.Recovery.{file_page, file_page_size, journal_of, pages_to, recovered, recovered_header}
use Rattle.spe_model.specs.Rollback.{rule_of}
use Rattle.spe_model.specs.Settled.{IsFound, LeavesPages, header_in}
use Rattle.spe_model.specs.Header.{node_of}
use Rattle.spe_model.specs.Trace.{History, IsCut, present}
use Rattle.spe_crash.specs.Pages.{QuietIsWhole, RecoveredAreHeaded}
use Rattle.spe_crash.specs.Rollback.{RollbackKeeps, RollbackIsCovered, RollbackEmpties, RollbackRestores}
use Rattle.spe_recover.specs.Recovered.{AreInFile, HasNoJournals, HasPages, rollback_of}
use Rattle.spe_disk.specs.Added.{IfBothTold, IfTold, MakesCut}
use Rattle.spe_recover.specs.Written.{MakesCounted}
use Rattle.spe_recover.proofs.CutLemmas.{IsCut-trans}
use Rattle.spe_recover.proofs.StopLemmas.{covered_by, keeps_by, left_empty, left_kept, left_restored}

pub left_pages : (old new : Option History) → RollbackKeeps → RollbackIsCovered → MakesCut old new rollback_of → LeavesPages old new
left_pages None new keeps covers c = tt
left_pages (Some h) new keeps covers c = record {
  made = c.made;
  adds = c.adds;
  covered = covered_by covers (present h) (recovered (present h)) c.made refl c.holds;
  stops = λ cut part. keeps_by keeps (present h) (recovered (present h)) cut refl (IsCut-trans (rollback_of (present h)) c.made cut c.holds part);
}

ok_same : (found : Result (List (List ℕ)) RecoverFault) (x y : List (List ℕ)) → found ≡ Ok x → found ≡ Ok y → x ≡ y
ok_same found x y a b = let same : found_pages found ≡ x = ap found_pages a in sym same ∙ ap found_pages b
  where
    found_pages : Result (List (List ℕ)) RecoverFault → List (List ℕ)
    found_pages (Ok pages) = pages
    found_pages (Err fault) = []

found_so : (found : Recovered) (content now : Content) (pages : List (List ℕ)) → RecoveredAreHeaded → QuietIsWhole → recovered content ≡ Ok pages
    → HasPages content found.pages → found.page_size ≡ file_page_size content → found.reserved ≡ (recovered_header content).reserved
    → found.node ≡ node_of (recovered_header content) → AreInFile found.pages content now → HasNoJournals now → recovered now ≡ recovered content → IsFound found now pages
found_so found content now pages headed whole recovers has sized reserved node in_file quiet kept =
    let same : pages ≡ has.pages = ok_same (recovered content) pages has.pages recovers has.recovers in
    let counted : found.pages ≡ length pages = sym (ap length same ∙ has.counted) in
    let now_recovers : recovered now ≡ Ok pages = kept ∙ recovers in
    let before = headed content pages recovers in
    let after = headed now pages now_recovers in
    let page_size : (header_in pages).page_size ≡ found.page_size = before.sized ∙ sym sized in
    record {
      recovers = now_recovers;
      counted = counted;
      sized = sym page_size ∙ after.sized;
      legal = before.legal;
      page_size = page_size;
      reserved = ap (λ (h : Header). h.reserved) before.recovered ∙ sym reserved;
      node = ap node_of before.recovered ∙ sym node;
      held = subst (λ (n : ℕ). map (file_page now) (pages_to n) ≡ pages) counted (ok_same (recovered content) (map (file_page now) (pages_to found.pages)) pages in_file recovers);
      whole = whole now pages now_recovers quiet;
      quiet = quiet;
    }

settled_by : (old new : Option History) (found : Recovered) → RecoveredAreHeaded → QuietIsWhole
    → IfTold old (λ content. HasPages content found.pages) → IfTold old (λ content. found.page_size ≡ file_page_size content)
    → IfTold old (λ content. found.reserved ≡ (recovered_header content).reserved) → IfTold old (λ content. found.node ≡ node_of (recovered_header content))
    → IfBothTold old new (AreInFile found.pages)
    → IfTold old (λ content. IfTold new HasNoJournals) → IfBothTold old new (λ content now. recovered now ≡ recovered content)
    → IfBothTold old new (λ content now. (pages : List (List ℕ)) → recovered content ≡ Ok pages → IsFound found now pages)
settled_by None new found headed whole has sized reserved node in_file quiet kept = tt
settled_by (Some h) None found headed whole has sized reserved node in_file quiet kept = tt
settled_by (Some h) (Some k) found headed whole has sized reserved node in_file quiet kept = λ pages recovers.
    found_so found (present h) (present k) pages headed whole recovers has sized reserved node in_file quiet kept

pub left_settled : (old new : Option History) (result : Result Recovered RecoverFault) → RollbackKeeps → RollbackEmpties → RollbackRestores → RecoveredAreHeaded → QuietIsWhole
    → IfOk result (λ found. IfTold old (λ content. HasPages content found.pages))
    → IfOk result (λ found. IfTold old (λ content. found.page_size ≡ file_page_size content))
    → IfOk result (λ found. IfTold old (λ content. found.reserved ≡ (recovered_header content).reserved))
    → IfOk result (λ found. IfTold old (λ content. found.node ≡ node_of (recovered_header content)))
    → IfOk result (λ found. MakesCounted old new (λ content. rule_of content found.pages) found.ops)
    → MakesCut old new rollback_of
    → IfOk result (λ found. IfBothTold old new (λ content now. (pages : List (List ℕ)) → recovered content ≡ Ok pages → IsFound found now pages))
left_settled old new (Err fault) keeps empties restores headed whole has sized reserved node made cut = tt
left_settled old new (Ok found) keeps empties restores headed whole has sized reserved node made cut =
    settled_by old new found headed whole has sized reserved node
    (left_restored old new found.pages found.pages found.ops refl restores has made)
    (left_empty old new found.pages found.ops empties has made)
    (left_kept old new keeps cut)
