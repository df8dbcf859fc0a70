-- Pages that stand in a pager, after a put and after pages were added.
use Rattle.std.proofs.Common.{◌≡◌, ◌+◌, ◌^◌, ◌<◌, ◌≤◌, ◌∙◌, ℕ, List, length, take, Option, Some, Ok, refl, sym, ap, subst, arith, unwrap_or}
use Rattle.std.specs.Prelude.{IsOk}
use Rattle.spe_model.specs.Header.{fields, header_of}
use Rattle.spe_model.specs.Paging.{PageMap, Paging, lay}
use Rattle.spe_space.specs.declared.fault.SpaceFault.{SpaceFault}
use Rattle.spe_space.specs.declared.fault.SpaceFault.TheVariants.{Corrupt}
use Rattle.spe_space.specs.Free.{IsApart}
use Rattle.spe_space.specs.Front.{recounted}
use Rattle.spe_space.specs.Outcome.{OnCorrupt}
use Rattle.spe_freelist.proofs.LikelyLemmas.{legal_front}
use Rattle.spe_session.specs.Lists.{AreInOrder, is_listed}
use Rattle.spe_session.specs.Pages.{Sets, laid_in}
use Rattle.spe_session.proofs.OrderLemmas.{grown_order, put_order}
use Rattle.spe_session.proofs.PageLemmas.{laid_before, laid_other, laid_put}

pub corrupt_of : (Spoils : ℕ → Type 0) (pages later : ℕ) (fault : SpaceFault) → fault ≡ Corrupt 1 → later ≡ pages → Spoils pages → OnCorrupt (Spoils later) fault
corrupt_of Spoils pages later fault is same spoils = subst (OnCorrupt (Spoils later)) (sym is) (subst Spoils (sym same) spoils)

show_same : (a b : PageMap) (q : Paging) (n : ℕ) → b n ≡ a n → lay b q n ≡ lay a q n
show_same a b q n same = ap (λ (o : Option (List ℕ)). unwrap_or o (q n)) same

show_put : (b : PageMap) (q : Paging) (n : ℕ) (bytes : List ℕ) → b n ≡ Some bytes → lay b q n ≡ bytes
show_put b q n bytes is = ap (λ (o : Option (List ℕ)). unwrap_or o (q n)) is

legal_put : (bytes : List ℕ) → 100 ≤ length bytes → header_of bytes ≡ Ok (fields bytes) → IsOk (header_of (take 100 bytes))
legal_put bytes long legal = legal_front bytes long (subst IsOk (sym legal) refl)

module _ (usable first base pages size : ℕ) (old new : List (ℕ × List ℕ)) (q : Paging) (o : AreInOrder usable pages first (lay (laid_in base pages size old) q)) where
  pub put_stands : (page : ℕ) (bytes : List ℕ) → Sets page (Some bytes) old new → length bytes ≡ size → 512 ≤ size → (page ≡ 1 → header_of bytes ≡ Ok (fields bytes))
      → IsApart (lay (laid_in base pages size old) q) (is_listed (lay (laid_in base pages size old) q)) page bytes
      → AreInOrder usable pages first (lay (laid_in base pages size new) q) × ((n : ℕ) → is_listed (lay (laid_in base pages size new) q) n ≡ is_listed (lay (laid_in base pages size old) q) n)
  put_stands page bytes sets long large legal apart =
      put_order usable pages first (lay (laid_in base pages size old) q) (lay (laid_in base pages size new) q) page bytes o apart
      (show_put (laid_in base pages size new) q page bytes (laid_put base pages size page bytes old new sets))
      (λ n other. show_same (laid_in base pages size old) (laid_in base pages size new) q n (laid_other base pages size page bytes old new sets n other))
      (λ e. legal_put bytes (omega (arith, long, large)) (legal e))

  pub grown_stands : (front : List ℕ) → Sets 1 (Some front) old new → front ≡ recounted (pages + 16) (lay (laid_in base pages size old) q 1) → pages + 16 < 2 ^ 32
      → AreInOrder usable (pages + 16) first (lay (laid_in base (pages + 16) size new) q) × ((n : ℕ) → is_listed (lay (laid_in base (pages + 16) size new) q) n ≡ is_listed (lay (laid_in base pages size old) q) n)
  grown_stands front sets is small =
      grown_order usable pages (pages + 16) first (lay (laid_in base pages size old) q) (lay (laid_in base (pages + 16) size new) q) o
      (show_put (laid_in base (pages + 16) size new) q 1 front (laid_put base (pages + 16) size 1 front old new sets) ∙ is)
      (omega arith) small
      (λ n other low. show_same (laid_in base pages size old) (laid_in base (pages + 16) size new) q n
      (laid_other base (pages + 16) size 1 front old new sets n other ∙ laid_before base pages (pages + 16) size old n low (omega arith)))
