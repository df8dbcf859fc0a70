-- The operations of a rewriting, part by part.
use Rattle.std.proofs.Common.{◌≡◌, ℕ, ◌+◌, ◌≤◌, List, [], ◌∷◌, ◌++◌, length, map, refl, arith, ap, subst, Option, Some, None, length-append}
use Rattle.std.proofs.lemmas.List.{length-map}
use Rattle.spe_model.specs.Content.{Content}
use Rattle.spe_model.specs.Paging.{Paging}
use Rattle.spe_model.specs.Recovery.{file_page}
use Rattle.spe_model.specs.Rollback.{cut_of}
use Rattle.spe_model.specs.Trace.{History, Operation, present}
use Rattle.spe_disk.specs.Told.{Adds}
use Rattle.spe_rewrite.specs.declared.change.Change.{Change}
use Rattle.spe_rewrite.specs.Rewrite.{endings, heading, old_changes, putting, rewrite_of, savings}
use Rattle.spe_disk.specs.Added.{AddsCut, IfTold, Makes, MakesCut}
use Rattle.spe_rewrite.specs.Told.{KeepsFile, counted}
use Rattle.spe_rewrite.proofs.LeftLemmas.{HasLeft, left_broken, left_first, left_next, left_none}
use Rattle.spe_rewrite.proofs.SaveLemmas.{same_pages}

-- some first operations were made, and these are left
abbrev pub Leaves : (old now : Option History) → (all left : Content → List Operation) → Type 0
Leaves None now all left = now ≡ None
Leaves (Some h) now all left = HasLeft (Some h) now (all (present h)) (left (present h))

Adds-none : (told new : Option History) (ops : List Operation) → told ≡ None → Adds told new ops → new ≡ None
Adds-none None new ops is adds = adds
Adds-none (Some h) new ops is adds = absurd cc

Makes-none : (told new : Option History) (ops : Content → List Operation) → told ≡ None → Makes told new ops → new ≡ None
Makes-none None new ops is makes = makes
Makes-none (Some h) new ops is makes = absurd cc

-- operations that do not look at the files are made
pub leaves_next : (old now next : Option History) (all left later : Content → List Operation) (one : List Operation) → ((content : Content) → left content ≡ one ++ later content)
    → Adds now next one → Leaves old now all left → Leaves old next all later
leaves_next None now next all left later one is adds l = Adds-none now next one l adds
leaves_next (Some h) now next all left later one is adds l = left_next (Some h) now next _ _ one _ (is (present h)) adds l

pub leaves_broken : (old now next : Option History) (all left later : Content → List Operation) (one : List Operation) → ((content : Content) → left content ≡ one ++ later content)
    → AddsCut now next one → Leaves old now all left → MakesCut old next all
leaves_broken None now next all left later one is cut l = tt
leaves_broken (Some h) now next all left later one is cut l = left_broken (Some h) now next _ _ one _ (is (present h)) cut l

pub leaves_none : (old now : Option History) (all left : Content → List Operation) → ((content : Content) → left content ≡ []) → Leaves old now all left → Makes old now all
leaves_none None now all left none l = l
leaves_none (Some h) now all left none l = left_none (Some h) now _ _ (none (present h)) l

-- operations that look at the pages of the file, which are as before
pub saves_next : (old now next : Option History) (all : Content → List Operation) (saves : Paging → List Operation) (later : List Operation) → KeepsFile old now
    → Makes now next (λ content. saves (file_page content)) → Leaves old now all (λ content. saves (file_page content) ++ later) → Leaves old next all (λ content. later)
saves_next None now next all saves later keeps makes l = Makes-none now next _ l makes
saves_next (Some h) None next all saves later keeps makes l = absurd keeps
saves_next (Some h) (Some k) next all saves later keeps makes l =
    left_next (Some h) (Some k) next _ _ (saves (file_page (present h))) later refl
    (subst (λ (pages : Paging). Adds (Some k) next (saves pages)) (same_pages (present h) (present k) keeps) makes) l

pub saves_broken : (old now next : Option History) (all : Content → List Operation) (saves : Paging → List Operation) (later : List Operation) → KeepsFile old now
    → MakesCut now next (λ content. saves (file_page content)) → Leaves old now all (λ content. saves (file_page content) ++ later) → MakesCut old next all
saves_broken None now next all saves later keeps cut l = tt
saves_broken (Some h) None next all saves later keeps cut l = absurd keeps
saves_broken (Some h) (Some k) next all saves later keeps cut l =
    left_broken (Some h) (Some k) next _ _ (saves (file_page (present h))) later refl
    (subst (λ (pages : Paging). AddsCut (Some k) next (saves pages)) (same_pages (present h) (present k) keeps) cut) l

-- all of it, where some page is changed
pub whole_is : (old : Paging) (size count nonce : ℕ) (changes : List Change) → 1 ≤ length changes
    → rewrite_of old size count nonce changes ≡ heading size count nonce ∷ (savings old size nonce 0 (old_changes count changes) ++ endings size changes)
whole_is old size count nonce [] some = absurd (omega arith)
whole_is old size count nonce (c ∷ cs) some = refl

module _ (size count nonce : ℕ) (changes : List Change) (some : 1 ≤ length changes) where
  abbrev pub all_of : Content → List Operation
  all_of content = rewrite_of (file_page content) size count nonce changes

  abbrev pub saves_of : Paging → List Operation
  saves_of old = savings old size nonce 0 (old_changes count changes)

  pub head_made : (old new : Option History) → Makes old new (λ content. heading size count nonce ∷ []) → Leaves old new all_of (λ content. saves_of (file_page content) ++ endings size changes)
  head_made None new makes = makes
  head_made (Some h) new makes = left_next (Some h) (Some h) new _ _ _ _ (whole_is (file_page (present h)) size count nonce changes some) makes (left_first (Some h) (all_of (present h)))

  pub head_broken : (old new : Option History) → MakesCut old new (λ content. heading size count nonce ∷ []) → MakesCut old new all_of
  head_broken None new cut = tt
  head_broken (Some h) new cut =
      left_broken (Some h) (Some h) new _ _ (heading size count nonce ∷ []) _ (whole_is (file_page (present h)) size count nonce changes some) cut (left_first (Some h) (all_of (present h)))

  module _ (t0 t1 t2 t3 t4 : Option History) where
    pub after_saves : Makes t0 t1 (λ content. heading size count nonce ∷ []) → KeepsFile t0 t1 → Makes t1 t2 (λ content. saves_of (file_page content)) → Leaves t0 t2 all_of (λ content. endings size changes)
    after_saves head keeps saves = saves_next t0 t1 t2 all_of saves_of (endings size changes) keeps saves (head_made t0 t1 head)

    pub after_puts : Makes t0 t1 (λ content. heading size count nonce ∷ []) → KeepsFile t0 t1 → Makes t1 t2 (λ content. saves_of (file_page content)) → Adds t2 t3 (map (putting size) changes)
        → Leaves t0 t3 all_of (λ content. cut_of 0 ∷ [])
    after_puts head keeps saves puts = leaves_next t0 t2 t3 all_of _ _ (map (putting size) changes) (λ content. refl) puts (after_saves head keeps saves)

    pub whole_made : Makes t0 t1 (λ content. heading size count nonce ∷ []) → KeepsFile t0 t1 → Makes t1 t2 (λ content. saves_of (file_page content)) → Adds t2 t3 (map (putting size) changes)
        → Adds t3 t4 (cut_of 0 ∷ []) → Makes t0 t4 all_of
    whole_made head keeps saves puts cut =
        leaves_none t0 t4 all_of (λ content. []) (λ content. refl) (leaves_next t0 t3 t4 all_of _ _ (cut_of 0 ∷ []) (λ content. refl) cut (after_puts head keeps saves puts))

  pub saving_broken : (t0 t1 t2 : Option History) → Makes t0 t1 (λ content. heading size count nonce ∷ []) → KeepsFile t0 t1 → MakesCut t1 t2 (λ content. saves_of (file_page content)) → MakesCut t0 t2 all_of
  saving_broken t0 t1 t2 head keeps cut = saves_broken t0 t1 t2 all_of saves_of (endings size changes) keeps cut (head_made t0 t1 head)

  pub putting_broken : (t0 t1 t2 t3 : Option History) → Makes t0 t1 (λ content. heading size count nonce ∷ []) → KeepsFile t0 t1 → Makes t1 t2 (λ content. saves_of (file_page content))
      → AddsCut t2 t3 (map (putting size) changes) → MakesCut t0 t3 all_of
  putting_broken t0 t1 t2 t3 head keeps saves cut = leaves_broken t0 t2 t3 all_of _ _ (map (putting size) changes) (λ content. refl) cut (after_saves t0 t1 t2 t2 t2 head keeps saves)

  pub cutting_broken : (t0 t1 t2 t3 t4 : Option History) → Makes t0 t1 (λ content. heading size count nonce ∷ []) → KeepsFile t0 t1 → Makes t1 t2 (λ content. saves_of (file_page content))
      → Adds t2 t3 (map (putting size) changes) → AddsCut t3 t4 (cut_of 0 ∷ []) → MakesCut t0 t4 all_of
  cutting_broken t0 t1 t2 t3 t4 head keeps saves puts cut =
      leaves_broken t0 t3 t4 all_of _ (λ content. []) (cut_of 0 ∷ []) (λ content. refl) cut (after_puts t0 t1 t2 t3 t4 head keeps saves puts)

  savings_long : (old : Paging) (n : ℕ) (cs : List Change) → length (savings old size nonce n cs) ≡ length cs
  savings_long old n [] = refl
  savings_long old n (c ∷ cs) = let rest = savings_long old (n + 1) cs in omega (arith, rest)

  pub whole_long : (old : Paging) → length (rewrite_of old size count nonce changes) ≡ length (old_changes count changes) + length changes + 2
  whole_long old =
      let is = ap length (whole_is old size count nonce changes some) in
      let parts = length-append (saves_of old) (endings size changes) in
      let ends = length-append (map (putting size) changes) (cut_of 0 ∷ []) in
      let puts = length-map changes (putting size) in
      omega (arith, is, parts, ends, puts, savings_long old 0 (old_changes count changes))

  pub counted_all : (told : Option History) (made saved first second third : ℕ) → saved ≡ length (old_changes count changes)
      → first ≡ counted made saved → second ≡ counted first (length changes) → third ≡ counted second 2
      → IfTold told (λ content. third ≡ counted made (length (all_of content)))
  counted_all None made saved first second third saved_is a b c = tt
  counted_all (Some h) made saved first second third saved_is a b c = let long = whole_long (file_page (present h)) in omega (arith, long, saved_is, a, b, c)
