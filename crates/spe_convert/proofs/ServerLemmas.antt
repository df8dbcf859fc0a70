-- The clauses of a preparation, from what its steps did.
use Rattle.std.proofs.Common.{◌≡◌, ◌∙◌, ℕ, ◌%◌, ◌^◌, ◌≤◌, List, [], ◌++◌, length, refl, sym, ap, subst, append-nil, Option, Some, None, Ok, Err, inl, inr}
use Rattle.std.proofs.lemmas.List.{append_cancel_left}
use Rattle.spe_model.specs.declared.recovery.Recovered.{Recovered}
use Rattle.spe_model.specs.Content.{Content}
use Rattle.spe_model.specs.Database.{Database}
use Rattle.spe_model.specs.Standing.{StandsFor}
use Rattle.spe_frame.specs.Times.{AreSame}
use Rattle.spe_convert.specs.declared.fault.ConvertFault.{ConvertFault}
use Rattle.spe_convert.specs.Free.{IsDamage}
use Rattle.spe_convert.proofs.RefusalLemmas.{damage_by, full_by, not_named, over_same, prepared_by}
use Rattle.spe_model.specs.Covered.{Recovers}
use Rattle.spe_model.specs.Paging.{Paging}
use Rattle.spe_model.specs.Recovery.{file_page}
use Rattle.spe_model.specs.Settled.{IsFound, IsWithinLimits, page_in}
use Rattle.spe_model.specs.Trace.{History, Operation, after, present}
use Rattle.spe_disk.specs.Told.{Adds, HasPlaces, absent_journals, makings}
use Rattle.spe_crash.specs.Pages.{QuietIsWhole, RecoveredAreHeaded}
use Rattle.spe_transactions.specs.Pages.{laid_pages}
use Rattle.spe_rewrite.specs.declared.change.Change.{Change}
use Rattle.spe_rewrite.specs.Changes.{AreChanges, changed}
use Rattle.spe_rewrite.specs.Idle.{AreIdle, MayRewrite}
use Rattle.spe_rewrite.specs.Rewrite.{rewrite_of}
use Rattle.spe_disk.specs.Added.{AddsSome, IfBothTold, IfTold, Makes}
use Rattle.spe_rewrite.specs.Told.{counted}
use Rattle.spe_rewrite.specs.Turns.{IsFront, KeepsIdle}
use Rattle.spe_convert.specs.Prepare.{ArePrepared, CountKept, IsAllPrepared, IsFullWhere, IsNoneOrPart, IsOneOfThree, IsPreparedExactly, PlansServer, Refuses, count_changes, counting as counting_ops, making_and_preparing, prepared, preparing, server_form, serving, with_count}
use Rattle.spe_convert.specs.Reading.{Holds, WhereHeld, usable_of}
use Rattle.spe_convert.specs.Release.{AreFound, AreResting, WhereFound}
use Rattle.spe_convert.proofs.CountedLemmas.{count_kept, may_count, rests_again}
use Rattle.spe_convert.proofs.RestLemmas.{held, page_is}
use Rattle.spe_convert.proofs.ServedLemmas.{laid_same, may_serve, prepared_are}
use Rattle.spe_convert.proofs.StagesLemmas.{Staged, rewrite_same, staged_front, staged_on, staged_short}
use Rattle.spe_convert.proofs.WholeLemmas.{IsMade, adds_both, after_made, idle_found, keeps_all, resting, trace_or, with_trace}

module _ (headed : RecoveredAreHeaded) (wholes : QuietIsWhole) (found : Recovered) (limits : IsWithinLimits found) (lists : ℕ) (one : 1 ≤ lists) (most : lists ≤ 16) where
  abbrev pub ops_by : (made : ℕ) → Content → List Change → List Operation
  ops_by made content changes = rewrite_of (file_page content) found.page_size found.pages (made % 2 ^ 32) changes

  -- a rewriting that may have failed
  abbrev pub Stops : (old new : Option History) (made : ℕ) (changes : List Change) → Type 0
  Stops old new made changes =
      IfTold old (λ content. AddsSome old new (λ ops. (ps : List (List ℕ)) → Recovers content ps → IsFront content (ops_by made content changes) ops ps (laid_pages ps (changed changes))))

  -- one that didn't
  pub record Rewrote (old new : Option History) (made now : ℕ) (changes : List Change) : Type 0 where
    pub adds : Makes old new (λ content. ops_by made content changes)
    pub counted_is : IfTold old (λ content. now ≡ counted made (length (ops_by made content changes)))
    pub idle : IfBothTold old new (λ content now. (ps : List (List ℕ)) → Recovers content ps → AreIdle found.page_size now (laid_pages ps (changed changes)))
    pub stops : Stops old new made changes

  resting_first : (h : History) → HasPlaces (Some h) → (pages : List (List ℕ)) → IsFound found (present h) pages → AreResting found (present h) pages
  resting_first h places pages is = record {
    idle = idle_found headed wholes found limits h pages places is;
    counted_are = sym is.counted;
    reserved = is.reserved;
  }

  -- the state once the journals were made
  module _ (h k : History) (made : ℕ) (m : IsMade found (Some h) (Some k) made) (pages : List (List ℕ)) (is : IsFound found (present h) pages)
      (count : ℕ) (first second : List Change) (plans : PlansServer found lists (Some h) count first second) (changes_first : AreChanges found.page_size first) (changes_second : AreChanges found.page_size second) where
    content : Content
    content = present h

    abbrev xs : List Operation
    xs = makings (absent_journals (present h))

    abbrev before_first : ℕ
    before_first = counted found.ops (length (absent_journals (present h)))

    abbrev ys : List Operation
    ys = counting_ops found before_first pages

    abbrev zs : List Operation
    zs = serving found lists (counted before_first (length ys)) pages plans.free

    abbrev P : Content → Type 0
    P = IsOneOfThree found lists pages plans.free

    rests_before : AreResting found (present h) pages
    rests_before = resting_first h m.places pages is

    rests_now : AreResting found (present k) pages
    rests_now = resting headed wholes found limits h k made m pages is

    holds_before : Holds found (present h) (page_in pages)
    holds_before = held headed wholes found limits (present h) pages rests_before

    first_is : first ≡ count_changes found.pages (page_in pages)
    first_is = plans.first_are (page_in pages) holds_before

    second_is : second ≡ server_form found lists pages plans.free
    second_is = plans.second_are (page_in pages) holds_before

    are : ArePrepared found lists pages plans.free
    are = prepared_are headed wholes found limits lists one most (present h) pages rests_before plans.free plans.ascending plans.fits (plans.stock (page_in pages) holds_before) (plans.all (page_in pages) holds_before)

    kept : CountKept found pages
    kept = count_kept headed wholes found limits (present k) pages rests_now

    pub first_may : MayRewrite found.page_size found.pages first (present k)
    first_may =
        subst (λ (cs : List Change). MayRewrite found.page_size found.pages cs (present k)) (sym first_is)
        (may_count headed wholes found limits (present k) pages rests_now)

    ys_are : ops_by made (present k) first ≡ ys
    ys_are =
        rewrite_same (file_page (present k)) (page_in pages) found.page_size found.pages (made % 2 ^ 32) first changes_first.ascending
        (λ p inside. sym (page_is headed wholes found limits (present k) pages rests_now p inside))
        ∙ ap (λ (n : ℕ). rewrite_of (page_in pages) found.page_size found.pages (n % 2 ^ 32) first) m.counted_is
        ∙ ap (λ (cs : List Change). rewrite_of (page_in pages) found.page_size found.pages (before_first % 2 ^ 32) cs) first_is

    list_is : laid_pages pages (changed first) ≡ with_count found pages
    list_is = ap (λ (cs : List Change). laid_pages pages (changed cs)) first_is

    staged_none : Staged (present h) xs xs P
    staged_none =
        let keeps = keeps_all headed wholes found limits h k made m pages is in
        record { front = keeps.front; covered = keeps.covered; stops = λ cut within. inl (keeps.stops cut within).recovers }

    staged_first : (ops : List Operation) → ((ps : List (List ℕ)) → Recovers (present k) ps → IsFront (present k) (ops_by made (present k) first) ops ps (laid_pages ps (changed first)))
        → Staged (present k) ys ops P
    staged_first ops f =
        subst (λ (os : List Operation). Staged (present k) os ops P) ys_are
        (staged_front (present k) (ops_by made (present k) first) ops pages (laid_pages pages (changed first)) P
        (λ now same. inl same)
        (λ now new. inr (inl (subst (Recovers now) list_is new)))
        (f pages rests_now.idle.recovers))

    next : present k ≡ after (present h) xs
    next = after_made h k xs m.adds

    -- the first transaction may have failed
    pub part_first : (new : Option History) → Stops (Some k) new made first
        → AddsSome (Some h) new (IsNoneOrPart found lists (present h) pages (making_and_preparing found lists (present h) pages))
    part_first new stops =
        let s = staged_on (present h) (present k) xs (ys ++ zs) stops.made P next staged_none (staged_short (present k) ys zs stops.made P (staged_first stops.made stops.holds)) in
        record {
          made = xs ++ stops.made;
          adds = adds_both h k new xs stops.made m.adds stops.adds;
          holds = inr (record { free = plans.free; prepared_are = are; count_kept = kept; front = s.front; covered = s.covered; stops = s.stops });
        }

    -- the state once the first transaction was made
    module _ (l : History) (now : ℕ) (r : Rewrote (Some k) (Some l) made now first) where
      idle_now : AreIdle found.page_size (present l) (with_count found pages)
      idle_now = subst (AreIdle found.page_size (present l)) list_is (r.idle pages rests_now.idle.recovers)

      rests_then : AreResting found (present l) (with_count found pages)
      rests_then = rests_again headed wholes found limits (present k) pages rests_now (present l) idle_now

      pub second_may : MayRewrite found.page_size found.pages second (present l)
      second_may =
          subst (λ (cs : List Change). MayRewrite found.page_size found.pages cs (present l)) (sym second_is)
          (may_serve headed wholes found limits lists one most (present k) pages rests_now plans.free plans.ascending plans.fits (present l) idle_now)

      adds_first : Adds (Some k) (Some l) ys
      adds_first = subst (Adds (Some k) (Some l)) ys_are r.adds

      staged_all : Staged (present k) ys ys P
      staged_all =
          let s = r.stops in
          let all : k.trace ++ s.made ≡ k.trace ++ ys = ap trace_or (sym s.adds ∙ adds_first) in
          let same : s.made ≡ ys = append_cancel_left k.trace s.made ys all in
          subst (λ (ops : List Operation). Staged (present k) ys ops P) same (staged_first s.made s.holds)

      number : now ≡ counted before_first (length ys)
      number =
          r.counted_is ∙ ap (λ (ops : List Operation). counted made (length ops)) ys_are ∙ ap (λ (n : ℕ). counted n (length ys)) m.counted_is

      zs_are : ops_by now (present l) second ≡ zs
      zs_are =
          rewrite_same (file_page (present l)) (page_in (with_count found pages)) found.page_size found.pages (now % 2 ^ 32) second changes_second.ascending
          (λ p inside. sym (page_is headed wholes found limits (present l) (with_count found pages) rests_then p inside))
          ∙ ap (λ (n : ℕ). rewrite_of (page_in (with_count found pages)) found.page_size found.pages (n % 2 ^ 32) second) number
          ∙ ap (λ (cs : List Change). rewrite_of (page_in (with_count found pages)) found.page_size found.pages (counted before_first (length ys) % 2 ^ 32) cs) second_is

      list_then : laid_pages (with_count found pages) (changed second) ≡ prepared found lists pages plans.free
      list_then =
          ap (λ (cs : List Change). laid_pages (with_count found pages) (changed cs)) second_is
          ∙ laid_same headed wholes found limits lists one most (present k) pages rests_now plans.free plans.ascending plans.fits

      staged_second : (ops : List Operation) → ((ps : List (List ℕ)) → Recovers (present l) ps → IsFront (present l) (ops_by now (present l) second) ops ps (laid_pages ps (changed second)))
          → Staged (present l) zs ops P
      staged_second ops f =
          subst (λ (os : List Operation). Staged (present l) os ops P) zs_are
          (staged_front (present l) (ops_by now (present l) second) ops (with_count found pages) (laid_pages (with_count found pages) (changed second)) P
          (λ there same. inr (inl same))
          (λ there new. inr (inr (subst (Recovers there) list_then new)))
          (f (with_count found pages) idle_now.recovers))

      then_is : present l ≡ after (present k) ys
      then_is = after_made k l ys adds_first

      -- the second transaction may have failed
      pub part_second : (new : Option History) → Stops (Some l) new now second
          → AddsSome (Some h) new (IsNoneOrPart found lists (present h) pages (making_and_preparing found lists (present h) pages))
      part_second new stops =
          let t = staged_on (present k) (present l) ys zs stops.made P then_is staged_all (staged_second stops.made stops.holds) in
          let s = staged_on (present h) (present k) xs (ys ++ zs) (ys ++ stops.made) P next staged_none t in
          record {
            made = xs ++ (ys ++ stops.made);
            adds = adds_both h k new xs (ys ++ stops.made) m.adds (adds_both k l new ys stops.made adds_first stops.adds);
            holds = inr (record { free = plans.free; prepared_are = are; count_kept = kept; front = s.front; covered = s.covered; stops = s.stops });
          }

      idle_end : (new : Option History) → IfBothTold (Some l) new (λ content now. (ps : List (List ℕ)) → Recovers content ps → AreIdle found.page_size now (laid_pages ps (changed second)))
          → IfTold new (λ there. AreIdle found.page_size there (prepared found lists pages plans.free))
      idle_end None idle = tt
      idle_end (Some n) idle = subst (AreIdle found.page_size (present n)) list_then (idle (with_count found pages) idle_now.recovers)

      pub whole_second : (new : Option History) (last : ℕ) → Rewrote (Some l) new now last second
          → IsAllPrepared found lists pages (making_and_preparing found lists (present h) pages) (Some h) new count
      whole_second new last q = record {
        free = plans.free;
        prepared_are = are;
        counted_is = plans.counted_is;
        made = adds_both h k new xs (ys ++ zs) m.adds (adds_both k l new ys zs adds_first (subst (Adds (Some l) new) zs_are q.adds));
        idle = idle_end new q.idle;
      }

  pub first_may_told : (old mid : Option History) (made count : ℕ) (first second : List Change) → IsMade found old mid made → IfTold old (AreFound found) → PlansServer found lists old count first second
      → AreChanges found.page_size first → AreChanges found.page_size second → IfTold mid (MayRewrite found.page_size found.pages first)
  first_may_told None mid made count first second m f plans a b = subst (λ (t : Option History). IfTold t (MayRewrite found.page_size found.pages first)) (sym m.adds) tt
  first_may_told (Some h) None made count first second m f plans a b = tt
  first_may_told (Some h) (Some k) made count first second m f plans a b = first_may h k made m f.pages f.is count first second plans a b

  pub second_may_told : (old mid next : Option History) (made now count : ℕ) (first second : List Change) → IsMade found old mid made → Rewrote mid next made now first → IfTold old (AreFound found)
      → PlansServer found lists old count first second → AreChanges found.page_size first → AreChanges found.page_size second → IfTold next (MayRewrite found.page_size found.pages second)
  second_may_told old mid None made now count first second m r f plans a b = tt
  second_may_told None None (Some l) made now count first second m r f plans a b = let adds = r.adds in absurd cc
  second_may_told None (Some k) (Some l) made now count first second m r f plans a b = let adds = m.adds in absurd cc
  second_may_told (Some h) None (Some l) made now count first second m r f plans a b = let adds = m.adds in absurd cc
  second_may_told (Some h) (Some k) (Some l) made now count first second m r f plans a b = second_may h k made m f.pages f.is count first second plans a b l now r

  -- nothing was done
  pub part_unplanned : (old new : Option History) → new ≡ old
      → WhereFound old found (λ content pages. AddsSome old new (IsNoneOrPart found lists content pages (making_and_preparing found lists content pages)))
  part_unplanned None new same = tt
  part_unplanned (Some h) new same = λ pages is. record {
    made = [];
    adds = same ∙ ap (with_trace h.first) (sym (append-nil h.trace));
    holds = inl refl;
  }

  -- not all journals were made
  pub part_unmade : (old new : Option History) (count : ℕ) (first second : List Change) → HasPlaces old → PlansServer found lists old count first second
      → IfTold old (λ content. AddsSome old new (λ ops. (size : ℕ) (pages : List (List ℕ)) → AreIdle size content pages → KeepsIdle size content (makings (absent_journals content)) ops pages))
      → WhereFound old found (λ content pages. AddsSome old new (IsNoneOrPart found lists content pages (making_and_preparing found lists content pages)))
  part_unmade None new count first second places plans stops = tt
  part_unmade (Some h) new count first second places plans stops = λ pages is.
      let content = present h in
      let free = plans.free in
      let rests = resting_first h places pages is in
      let holds = held headed wholes found limits content pages rests in
      let are = prepared_are headed wholes found limits lists one most content pages rests free plans.ascending plans.fits (plans.stock (page_in pages) holds) (plans.all (page_in pages) holds) in
      let kept = count_kept headed wholes found limits content pages rests in
      let keeps = stops.holds found.page_size pages (idle_found headed wholes found limits h pages places is) in
      let P = IsOneOfThree found lists pages free in
      let none : Staged content (makings (absent_journals content)) stops.made P =
      record { front = keeps.front; covered = keeps.covered; stops = λ cut within. inl (keeps.stops cut within).recovers } in
      let s = staged_short content (makings (absent_journals content)) (preparing found lists (counted found.ops (length (absent_journals content))) pages free) stops.made P none in
      record { made = stops.made; adds = stops.adds; holds = inr (record { free = free; prepared_are = are; count_kept = kept; front = s.front; covered = s.covered; stops = s.stops }) }

  pub part_first_told : (old mid new : Option History) (made count : ℕ) (first second : List Change) → IsMade found old mid made
      → PlansServer found lists old count first second → AreChanges found.page_size first → AreChanges found.page_size second → Stops mid new made first
      → WhereFound old found (λ content pages. AddsSome old new (IsNoneOrPart found lists content pages (making_and_preparing found lists content pages)))
  part_first_told None mid new made count first second m plans a b stops = tt
  part_first_told (Some h) None new made count first second m plans a b stops = let adds = m.adds in absurd cc
  part_first_told (Some h) (Some k) new made count first second m plans a b stops = λ pages is. part_first h k made m pages is count first second plans a b new stops

  pub part_second_told : (old mid next new : Option History) (made now count : ℕ) (first second : List Change) → IsMade found old mid made → Rewrote mid next made now first
      → PlansServer found lists old count first second → AreChanges found.page_size first → AreChanges found.page_size second → Stops next new now second
      → WhereFound old found (λ content pages. AddsSome old new (IsNoneOrPart found lists content pages (making_and_preparing found lists content pages)))
  part_second_told None mid next new made now count first second m r plans a b stops = tt
  part_second_told (Some h) None next new made now count first second m r plans a b stops = let adds = m.adds in absurd cc
  part_second_told (Some h) (Some k) None new made now count first second m r plans a b stops = let adds = r.adds in absurd cc
  part_second_told (Some h) (Some k) (Some l) new made now count first second m r plans a b stops = λ pages is.
      part_second h k made m pages is count first second plans a b l now r new stops

  pub whole_second_told : (old mid next new : Option History) (made now last count : ℕ) (first second : List Change) → IsMade found old mid made → Rewrote mid next made now first
      → PlansServer found lists old count first second → AreChanges found.page_size first → AreChanges found.page_size second → Rewrote next new now last second
      → WhereFound old found (λ content pages. IsAllPrepared found lists pages (making_and_preparing found lists content pages) old new count)
  whole_second_told None mid next new made now last count first second m r plans a b q = tt
  whole_second_told (Some h) None next new made now last count first second m r plans a b q = let adds = m.adds in absurd cc
  whole_second_told (Some h) (Some k) None new made now last count first second m r plans a b q = let adds = r.adds in absurd cc
  whole_second_told (Some h) (Some k) (Some l) new made now last count first second m r plans a b q = λ pages is.
      whole_second h k made m pages is count first second plans a b l now r new last q

  -- what holds of the pages that the file has, holds of those that were found
  pub found_held : (told : Option History) → HasPlaces told → (P : Paging → Type 0) (Q : List (List ℕ) → Type 0) → ((pages : List (List ℕ)) → found.pages ≡ length pages → P (page_in pages) → Q pages)
      → WhereHeld told found P → WhereFound told found (λ content pages. Q pages)
  found_held None places P Q f held_in = tt
  found_held (Some h) places P Q f held_in = λ pages is. f pages is.counted (held_in (page_in pages) (held headed wholes found limits (present h) pages (resting_first h places pages is)))

  pub found_always : (told : Option History) (Q : List (List ℕ) → Type 0) → ((pages : List (List ℕ)) → Q pages) → WhereFound told found (λ content pages. Q pages)
  found_always None Q f = tt
  found_always (Some h) Q f = λ pages is. f pages

  -- why the plan is refused
  pub prepared_refused : (T : Type 0) (told : Option History) (fault : ConvertFault) → HasPlaces told → WhereHeld told found (Refuses {T = T} found lists (Err fault))
      → WhereFound told found (λ content pages. IsPreparedExactly (Err fault) (page_in pages))
  prepared_refused T told fault places refused =
      found_held told places (Refuses {T = T} found lists (Err fault)) (λ pages. IsPreparedExactly (Err fault) (page_in pages)) (λ pages count r. prepared_by T found lists pages fault count r) refused

  pub full_refused : (T : Type 0) (told : Option History) (fault : ConvertFault) → HasPlaces told → WhereHeld told found (Refuses {T = T} found lists (Err fault))
      → WhereFound told found (λ content pages. IsFullWhere found lists (Err fault) (page_in pages))
  full_refused T told fault places refused =
      found_held told places (Refuses {T = T} found lists (Err fault)) (λ pages. IsFullWhere found lists (Err fault) (page_in pages)) (λ pages count r. full_by T found lists (page_in pages) fault r) refused

  pub damage_refused : (T : Type 0) (told : Option History) (fault : ConvertFault) → HasPlaces told → WhereHeld told found (Refuses {T = T} found lists (Err fault))
      → WhereFound told found (λ content pages. IsDamage (usable_of found) found.pages fault (page_in pages))
  damage_refused T told fault places refused =
      found_held told places (Refuses {T = T} found lists (Err fault)) (λ pages. IsDamage (usable_of found) found.pages fault (page_in pages)) (λ pages count r. damage_by T found lists (page_in pages) fault r) refused

  -- where all was done they were not in server form, and there was room
  pub prepared_done : (T : Type 0) (told : Option History) (x : T) (count : ℕ) → HasPlaces told → WhereHeld told found (Refuses found lists (Ok x))
      → WhereFound told found (λ content pages. IsPreparedExactly (Ok count) (page_in pages))
  prepared_done T told x count places refused =
      found_held told places (Refuses found lists (Ok x)) (λ pages. IsPreparedExactly (Ok count) (page_in pages)) (λ pages number named. not_named (page_in pages) named) refused

  pub full_done : (told : Option History) (before count : ℕ) (first second : List Change) → HasPlaces told → PlansServer found lists told before first second
      → WhereFound told found (λ content pages. IsFullWhere found lists (Ok count) (page_in pages))
  full_done told before count first second places plans =
      found_held told places (λ pages. (db : Database) (stands : StandsFor (usable_of found) found.pages pages db) → AreSame plans.free stands.listed) (λ pages. IsFullWhere found lists (Ok count) (page_in pages))
      (λ pages many all. λ db s. over_same found lists plans.free s.listed (all db s) ∙ plans.fits) plans.all
