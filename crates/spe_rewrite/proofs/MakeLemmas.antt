-- Journals that are absent are made.
use Rattle.std.proofs.Common.{◌≡◌, ◌≢◌, ℕ, zero, suc, ◌+◌, ◌<◌, List, [], ◌∷◌, ◌++◌, length, map, All, refl, arith, sym, ap, subst, ◌∙◌, Option, Some, None, Result, Ok, Err, ⊎_elim, inl, inr}
use Rattle.std.specs.Prelude.{is_none}
use Rattle.std.specs.List.{range_with_len}
use Rattle.std.proofs.lemmas.Bool.{cases_eq}
use Rattle.std.proofs.lemmas.List.{map-append}
use Rattle.std.proofs.lemmas.List.Elements.{All-cons, All-filter, All-head, All-nil, All-tail}
use Rattle.spe_model.specs.declared.file.FileNo.TheVariants.{Journal}
use Rattle.spe_model.specs.Content.{Content, file_of}
use Rattle.spe_model.specs.Covered.{Covered}
use Rattle.spe_model.specs.Paging.{Paging}
use Rattle.spe_model.specs.Recovery.{journal_of, pages_to}
use Rattle.spe_model.specs.Rollback.{cut_of}
use Rattle.spe_model.specs.Trace.{History, IsCut, Operation, after, made_by, present}
use Rattle.spe_disk.specs.declared.disk.Failed.{Failed}
use Rattle.spe_disk.specs.Told.{MakesJournals, absent_among, absent_below, absent_journals, makings}
use Rattle.spe_crash.proofs.CutLemmas.{cut_empties, cut_leaves}
use Rattle.spe_transactions.specs.Made.{Makes}
use Rattle.spe_transactions.specs.Steps.{MadeWorks, OpeningWorks}
use Rattle.spe_transactions.specs.Work.{no_works}
use Rattle.spe_transactions.proofs.MovedLemmas.{IsMoved, moved, moved_size}
use Rattle.spe_rewrite.specs.Idle.{AreIdle}
use Rattle.spe_disk.specs.Added.{AddsSome, IfBothTold, IfTold, MakesCut}
use Rattle.spe_rewrite.specs.Turns.{KeepsIdle}
use Rattle.spe_rewrite.proofs.LeftLemmas.{IsCut-front, IsCut-trans, present_after}
use Rattle.spe_rewrite.proofs.SaveLemmas.{same_pages}

all_range : (a n : ℕ) → All (λ i. i < a + n) (range_with_len a n)
all_range a zero = All-nil (λ i. i < a + 0)
all_range a (suc n) =
    let same : a + 1 + n ≡ a + suc n = omega arith in
    All-cons (λ i. i < a + suc n) a (range_with_len (a + 1) n) (omega arith) (subst (λ (m : ℕ). All (λ i. i < m) (range_with_len (a + 1) n)) same (all_range (a + 1) n))

-- a journal that is absent has a number below 16
absent_low : (content : Content) → All (λ n. n < 16) (absent_journals content)
unfolding absent_below absent_among
absent_low content = All-filter (λ n. is_none (file_of content (Journal n))) (λ n. n < 16) (range_with_len 0 16) (all_range 0 16)

module _ (opens : OpeningWorks) (makes : MadeWorks) (size : ℕ) (pages : List (List ℕ)) where
  made : (content : Content) (id : ℕ) → id < 16 → AreIdle size content pages → Makes content (cut_of id) pages pages no_works no_works
  made content id low idle = makes content pages no_works no_works (opens content pages idle.files idle.recovers idle.quiet) id low (idle.quiet id low)

  -- one journal is made
  idle_next : (content : Content) (id : ℕ) → id < 16 → AreIdle size content pages → AreIdle size (made_by (cut_of id) content) pages
  idle_next content id low idle =
      let m = made content id low idle in
      let now = made_by (cut_of id) content in
      let moves : IsMoved content now id [] = moved content id [] idle.files low in
      record {
        files = m.made.files;
        recovers = m.made.recovers;
        sized = moved_size content now id [] moves ∙ idle.sized;
        held = ap (λ (file : Paging). map file (pages_to (length pages))) (same_pages content now moves.database) ∙ idle.held;
        quiet = λ i small.
            ⊎_elim
            (λ (own : i ≡ id). ap (journal_of now) own ∙ cut_empties content id)
            (λ (other : i ≢ id). cut_leaves content id i (λ same. other (sym same)) ∙ idle.quiet i small)
            (cases_eq i id);
      }

  -- some first of them are
  idle_all : (ns : List ℕ) (content : Content) (some : List Operation) → All (λ n. n < 16) ns → AreIdle size content pages → IsCut (makings ns) some → Covered content some × AreIdle size (after content some) pages
  idle_all ns content [] low idle cut = (tt, idle)
  idle_all [] content (c ∷ cs) low idle cut = absurd cut
  idle_all (n ∷ ns) content (c ∷ cs) low idle (inl whole) =
      let own = All-head (λ n. n < 16) n ns low in
      let rest = idle_all ns (made_by (cut_of n) content) cs (All-tail (λ n. n < 16) n ns low) (idle_next content n own idle) whole.1 in
      subst (λ (o : Operation). Covered content (o ∷ cs) × AreIdle size (after content (o ∷ cs)) pages) (sym whole.0) (((made content n own idle).covered, rest.0), rest.1)
  idle_all (n ∷ ns) content (c ∷ cs) low idle (inr torn) = absurd torn.0

  keeps : (content : Content) (some : List Operation) → AreIdle size content pages → IsCut (makings (absent_journals content)) some → KeepsIdle size content (makings (absent_journals content)) some pages
  keeps content some idle cut = record {
    front = cut;
    covered = (idle_all (absent_journals content) content some (absent_low content) idle cut).0;
    stops = λ left within. (idle_all (absent_journals content) content left (absent_low content) idle (IsCut-trans (makings (absent_journals content)) some left cut within)).1;
  }

-- some first journals were made, or all
pub making_cut : (old new : Option History) (result : Result ℕ Failed) → MakesJournals old new result → MakesCut old new (λ content. makings (absent_journals content))
making_cut None new result m = tt
making_cut (Some h) new (Ok n) m = record { made = makings (absent_journals (present h)); adds = m.1; holds = whole (makings (absent_journals (present h))) }
  where
    whole : (ops : List Operation) → IsCut ops ops
    whole [] = tt
    whole (o ∷ os) = inl (refl, whole os)
making_cut (Some h) new (Err e) m = record {
  made = makings m.0;
  adds = m.3;
  holds =
      subst (λ (ns : List ℕ). IsCut (makings ns) (makings m.0)) (sym m.2)
      (subst (λ (ops : List Operation). IsCut ops (makings m.0)) (sym (map-append (λ n. cut_of n) m.0 m.1)) (IsCut-front (makings m.0) (makings m.1)));
}

pub making_idle : (opens : OpeningWorks) (makes : MadeWorks) (old new : Option History) → MakesCut old new (λ content. makings (absent_journals content))
    → IfBothTold old new (λ content now. (size : ℕ) (pages : List (List ℕ)) → AreIdle size content pages → AreIdle size now pages)
making_idle opens makes None new cut = tt
making_idle opens makes (Some h) None cut = tt
making_idle opens makes (Some h) (Some k) cut = λ size pages idle.
    let same : k ≡ record { first = h.first; trace = h.trace ++ cut.made } = (let is = cut.adds in cc) in
    subst (λ (now : Content). AreIdle size now pages) (sym (present_after h cut.made k same))
    (idle_all opens makes size pages (absent_journals (present h)) (present h) cut.made (absent_low (present h)) idle cut.holds).1

pub making_stops : (opens : OpeningWorks) (makes : MadeWorks) (old new : Option History) → MakesCut old new (λ content. makings (absent_journals content))
    → IfTold old (λ content. AddsSome old new (λ ops. (size : ℕ) (pages : List (List ℕ)) → AreIdle size content pages → KeepsIdle size content (makings (absent_journals content)) ops pages))
making_stops opens makes None new cut = tt
making_stops opens makes (Some h) new cut = record { made = cut.made; adds = cut.adds; holds = λ size pages idle. keeps opens makes size pages (present h) cut.made idle cut.holds }
