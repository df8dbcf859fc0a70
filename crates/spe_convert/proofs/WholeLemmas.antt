-- The clauses of a release, from what its steps did.
use Rattle.std.proofs.Common.{◌≡◌, ◌≢◌, ◌∙◌, ℕ, ◌%◌, ◌^◌, ◌≤◌, List, [], ◌∷◌, ◌++◌, length, refl, sym, ap, subst, arith, append_assoc, append-nil, Option, Some, None, Result, Ok, Err, ⊎_elim, inl, inr}
use Rattle.std.specs.Prelude.{IfErr, IfOk}
use Rattle.std.proofs.lemmas.List.{append_cancel_left}
use Rattle.spe_model.specs.declared.file.FileNo.TheVariants.{Database}
use Rattle.spe_model.specs.declared.recovery.Recovered.{Recovered}
use Rattle.spe_model.specs.Content.{Content, bytes_of}
use Rattle.spe_model.specs.Covered.{Covered, Recovers}
use Rattle.spe_model.specs.Faults.{Rose}
use Rattle.spe_model.specs.Paging.{Paging}
use Rattle.spe_model.specs.Recovery.{file_page}
use Rattle.spe_model.specs.Settled.{IsFound, IsWithinLimits, page_in}
use Rattle.spe_model.specs.Trace.{History, IsCut, Operation, after, present}
use Rattle.spe_disk.specs.Told.{Adds, HasPlaces, absent_journals, makings}
use Rattle.spe_crash.specs.Pages.{QuietIsWhole, RecoveredAreHeaded}
use Rattle.spe_crash.proofs.TraceLemmas.{after-append}
use Rattle.spe_transactions.specs.Pages.{laid_pages}
use Rattle.spe_transactions.proofs.FilesLemmas.{files_stay_after}
use Rattle.spe_rewrite.specs.declared.change.Change.{Change}
use Rattle.spe_rewrite.specs.declared.fault.RewriteFault.{RewriteFault}
use Rattle.spe_rewrite.specs.declared.fault.RewriteFault.TheVariants as rewriting
use Rattle.spe_rewrite.specs.Changes.{changed}
use Rattle.spe_rewrite.specs.Idle.{AreIdle, MayRewrite}
use Rattle.spe_rewrite.specs.Rewrite.{rewrite_of}
use Rattle.spe_disk.specs.Added.{AddsSome, IfBothTold, IfTold, Makes}
use Rattle.spe_rewrite.specs.Told.{HasCauses, IsCausedBy, counted}
use Rattle.spe_rewrite.specs.Turns.{IsFront, KeepsIdle}
use Rattle.spe_convert.specs.declared.fault.ConvertFault.{ConvertFault}
use Rattle.spe_convert.specs.declared.fault.ConvertFault.TheVariants.{Corrupt, Disk, Full, Memory, Prepared}
use Rattle.spe_convert.specs.Causes.{HasReleaseCause, IsReleaseFault, fault_of}
use Rattle.spe_convert.specs.Changes.{released_changes}
use Rattle.spe_convert.specs.Free.{IsDamage}
use Rattle.spe_convert.specs.Reading.{HasReading, IsReading, WhereHeld, usable_of}
use Rattle.spe_convert.specs.Release.{AreFound, AreReleased, AreResting, IsOldOrNew, IsPart, IsWhole, Plans, Rests, WhereFound, WhereResting, making_first, releasing}
use Rattle.spe_convert.proofs.CutLemmas.{covered_both, cut_behind, cut_longer, cut_parts, makings_leave, none_cut, pages_same}
use Rattle.spe_convert.proofs.RestLemmas.{held, may, released_are}

-- nothing is left of no operations
pub nothing_cut : (content : Content) (pages : List (List ℕ)) (cut : List Operation) → IsCut [] cut → Recovers content pages → Recovers (after content cut) pages
nothing_cut content pages [] is recovers = recovers
nothing_cut content pages (c ∷ cs) is recovers = absurd is

abbrev pub with_trace : Content → List Operation → Option History
with_trace first trace = Some (record { first = first; trace = trace })

abbrev pub trace_or : Option History → List Operation
trace_or None = []
trace_or (Some h) = h.trace

-- operations behind others
pub adds_both : (h k : History) (new : Option History) (xs ys : List Operation) → Adds (Some h) (Some k) xs → Adds (Some k) new ys → Adds (Some h) new (xs ++ ys)
adds_both h k new xs ys first rest =
    let same : k ≡ record { first = h.first; trace = h.trace ++ xs } = cc in
    let behind : History → Option History = λ j. with_trace j.first (j.trace ++ ys) in
    rest ∙ ap behind same ∙ ap (with_trace h.first) (append_assoc h.trace xs ys)

pub after_made : (h k : History) (xs : List Operation) → Adds (Some h) (Some k) xs → present k ≡ after (present h) xs
after_made h k xs adds =
    let same : k ≡ record { first = h.first; trace = h.trace ++ xs } = cc in
    ap present same ∙ after-append h.first h.trace xs

-- the journals were made
pub record IsMade (found : Recovered) (old mid : Option History) (made : ℕ) : Type 0 where
  pub adds : Makes old mid (λ content. makings (absent_journals content))
  pub counted_is : IfTold old (λ content. made ≡ counted found.ops (length (absent_journals content)))
  pub idle : IfBothTold old mid (λ content now. (size : ℕ) (pages : List (List ℕ)) → AreIdle size content pages → AreIdle size now pages)
  pub stops : IfTold old (λ content. AddsSome old mid (λ ops. (size : ℕ) (pages : List (List ℕ)) → AreIdle size content pages → KeepsIdle size content (makings (absent_journals content)) ops pages))
  pub places : HasPlaces old

module _ (headed : RecoveredAreHeaded) (wholes : QuietIsWhole) (found : Recovered) (limits : IsWithinLimits found) where
  abbrev pub ops_by : (made : ℕ) → Content → List Change → List Operation
  ops_by made content changes = rewrite_of (file_page content) found.page_size found.pages (made % 2 ^ 32) changes

  changes_of : (h : History) (count : ℕ) (changes : List Change) (pages : List (List ℕ)) → AreResting found (present h) pages → (plans : Plans found (Some h) count changes)
      → changes ≡ released_changes (usable_of found) found.pages plans.free (page_in pages)
  changes_of h count changes pages rests plans = plans.changes_are (page_in pages) (held headed wholes found limits (present h) pages rests)

  released_of : (h : History) (count : ℕ) (changes : List Change) (pages : List (List ℕ)) → AreResting found (present h) pages → (plans : Plans found (Some h) count changes)
      → AreReleased found pages plans.free
  released_of h count changes pages rests plans =
      released_are headed wholes found limits (present h) pages rests plans.free plans.ascending
      (plans.all (page_in pages) (held headed wholes found limits (present h) pages rests))

  may_told : (told : Option History) (count : ℕ) (changes : List Change) → IfTold told (Rests found) → Plans found told count changes
      → IfTold told (MayRewrite found.page_size found.pages changes)
  may_told None count changes rests plans = tt
  may_told (Some h) count changes rests plans =
      subst (λ (cs : List Change). MayRewrite found.page_size found.pages cs (present h)) (sym (changes_of h count changes rests.pages rests.are plans))
      (may headed wholes found limits (present h) rests.pages rests.are plans.free plans.ascending)

  idle_now : (h : History) (new : Option History) (changes cs : List Change) (pages : List (List ℕ)) → changes ≡ cs → Recovers (present h) pages
      → IfBothTold (Some h) new (λ content now. (ps : List (List ℕ)) → Recovers content ps → AreIdle found.page_size now (laid_pages ps (changed changes)))
      → IfTold new (λ now. AreIdle found.page_size now (laid_pages pages (changed cs)))
  idle_now h None changes cs pages is recovers idle = tt
  idle_now h (Some k) changes cs pages is recovers idle =
      subst (λ (ds : List Change). AreIdle found.page_size (present k) (laid_pages pages (changed ds))) is (idle pages recovers)

  whole_told : (old new : Option History) (made count : ℕ) (changes : List Change) → Plans found old count changes
      → Makes old new (λ content. ops_by made content changes)
      → IfBothTold old new (λ content now. (ps : List (List ℕ)) → Recovers content ps → AreIdle found.page_size now (laid_pages ps (changed changes)))
      → WhereResting old found (λ content pages. IsWhole found pages (releasing found made content pages) old new count)
  whole_told None new made count changes plans makes idle = tt
  whole_told (Some h) new made count changes plans makes idle = λ pages rests.
      let is = changes_of h count changes pages rests plans in
      record {
        free = plans.free;
        released_are = released_of h count changes pages rests plans;
        counted_is = plans.counted_is;
        made = subst (λ (cs : List Change). Adds (Some h) new (ops_by made (present h) cs)) is makes;
        idle = idle_now h new changes (released_changes (usable_of found) found.pages plans.free (page_in pages)) pages is rests.idle.recovers idle;
      }

  part_told : (old new : Option History) (made count : ℕ) (changes : List Change) → Plans found old count changes
      → IfTold old (λ content. AddsSome old new (λ ops. (ps : List (List ℕ)) → Recovers content ps → IsFront content (ops_by made content changes) ops ps (laid_pages ps (changed changes))))
      → WhereResting old found (λ content pages. AddsSome old new (IsPart found content pages (releasing found made content pages)))
  part_told None new made count changes plans stops = tt
  part_told (Some h) new made count changes plans stops = λ pages rests.
      let is = changes_of h count changes pages rests plans in
      let are = released_of h count changes pages rests plans in
      let f = stops.holds pages rests.idle.recovers in
      record {
        made = stops.made;
        adds = stops.adds;
        holds = record {
          free = plans.free;
          front = subst (λ (cs : List Change). IsCut (ops_by made (present h) cs) stops.made) is f.front;
          covered = f.covered;
          stops = λ cut within.
              ⊎_elim
              (λ (before : Recovers (after (present h) cut) pages). inl before)
              (λ (both : (cut ≡ ops_by made (present h) changes) × Recovers (after (present h) cut) (laid_pages pages (changed changes))).
              inr (are, subst (λ (cs : List Change). Recovers (after (present h) cut) (laid_pages pages (changed cs))) is both.1))
              (f.stops cut within);
        };
      }

  -- the three where the files were read in between
  pub may_after : (old mid : Option History) (count : ℕ) (changes : List Change) → mid ≡ old → IfTold old (Rests found) → Plans found old count changes
      → IfTold mid (MayRewrite found.page_size found.pages changes)
  may_after old mid count changes same rests plans =
      subst (λ (t : Option History). IfTold t (MayRewrite found.page_size found.pages changes)) (sym same) (may_told old count changes rests plans)

  pub whole_after : (old mid new : Option History) (made count : ℕ) (changes : List Change) → mid ≡ old → Plans found old count changes
      → Makes mid new (λ content. ops_by made content changes)
      → IfBothTold mid new (λ content now. (ps : List (List ℕ)) → Recovers content ps → AreIdle found.page_size now (laid_pages ps (changed changes)))
      → WhereResting old found (λ content pages. IsWhole found pages (releasing found made content pages) old new count)
  whole_after old mid new made count changes same plans makes idle =
      whole_told old new made count changes plans
      (subst (λ (t : Option History). Makes t new (λ content. ops_by made content changes)) same makes)
      (subst (λ (t : Option History). IfBothTold t new (λ content now. (ps : List (List ℕ)) → Recovers content ps → AreIdle found.page_size now (laid_pages ps (changed changes)))) same idle)

  pub part_after : (old mid new : Option History) (made count : ℕ) (changes : List Change) → mid ≡ old → Plans found old count changes
      → IfTold mid (λ content. AddsSome mid new (λ ops. (ps : List (List ℕ)) → Recovers content ps → IsFront content (ops_by made content changes) ops ps (laid_pages ps (changed changes))))
      → WhereResting old found (λ content pages. AddsSome old new (IsPart found content pages (releasing found made content pages)))
  part_after old mid new made count changes same plans stops =
      part_told old new made count changes plans
      (subst (λ (t : Option History). IfTold t (λ content. AddsSome t new (λ ops. (ps : List (List ℕ)) → Recovers content ps → IsFront content (ops_by made content changes) ops ps (laid_pages ps (changed changes))))) same stops)

  pub part_none : (old new : Option History) (made : ℕ) → new ≡ old → WhereResting old found (λ content pages. AddsSome old new (IsPart found content pages (releasing found made content pages)))
  part_none None new made same = tt
  part_none (Some h) new made same = λ pages rests. record {
    made = [];
    adds = same ∙ ap (with_trace h.first) (sym (append-nil h.trace));
    holds = record { free = []; front = none_cut (releasing found made (present h) pages []); covered = tt; stops = λ cut within. inl (nothing_cut (present h) pages cut within rests.idle.recovers) };
  }

  pub idle_found : (h : History) (pages : List (List ℕ)) → HasPlaces (Some h) → IsFound found (present h) pages → AreIdle found.page_size (present h) pages
  idle_found h pages places is = record {
    files = files_stay_after h.first h.trace ∙ places;
    recovers = is.recovers;
    sized = sym is.sized;
    held = is.held;
    quiet = is.quiet;
  }

  pub resting : (h k : History) (made : ℕ) → IsMade found (Some h) (Some k) made → (pages : List (List ℕ)) → IsFound found (present h) pages → AreResting found (present k) pages
  resting h k made m pages is = record {
    idle = m.idle found.page_size pages (idle_found h pages m.places is);
    counted_are = sym is.counted;
    reserved = is.reserved;
  }

  pub rests_told : (old mid : Option History) (made : ℕ) → IsMade found old mid made → IfTold old (AreFound found) → IfTold mid (Rests found)
  rests_told None mid made m f = subst (λ (t : Option History). IfTold t (Rests found)) (sym m.adds) tt
  rests_told (Some h) None made m f = tt
  rests_told (Some h) (Some k) made m f = record { pages = f.pages; are = resting h k made m f.pages f.is }

  -- no operation's place or number depends on whether the journals were there
  ops_same : (h k : History) (made : ℕ) → IsMade found (Some h) (Some k) made → (pages : List (List ℕ)) (free : List ℕ)
      → releasing found made (present k) pages free ≡ releasing found (counted found.ops (length (absent_journals (present h)))) (present h) pages free
  ops_same h k made m pages free =
      let cs = released_changes (usable_of found) found.pages free (page_in pages) in
      let xs = makings (absent_journals (present h)) in
      let bytes : bytes_of (present k) Database ≡ bytes_of (present h) Database =
      ap (λ (c : Content). bytes_of c Database) (after_made h k xs m.adds) ∙ makings_leave (absent_journals (present h)) (present h) in
      ap (λ (file : Paging). rewrite_of file found.page_size found.pages (made % 2 ^ 32) cs) (pages_same (present h) (present k) bytes)
      ∙ ap (λ (n : ℕ). rewrite_of (file_page (present h)) found.page_size found.pages (n % 2 ^ 32) cs) m.counted_is

  whole_behind : (old mid new : Option History) (made count : ℕ) → IsMade found old mid made
      → WhereResting mid found (λ content pages. IsWhole found pages (releasing found made content pages) mid new count)
      → WhereFound old found (λ content pages. IsWhole found pages (making_first found content pages) old new count)
  whole_behind None mid new made count m w = tt
  whole_behind (Some h) None new made count m w = let adds = m.adds in absurd cc
  whole_behind (Some h) (Some k) new made count m w = λ pages is.
      let inner = w pages (resting h k made m pages is) in
      let same = ops_same h k made m pages inner.free in
      record {
        free = inner.free;
        released_are = inner.released_are;
        counted_is = inner.counted_is;
        made =
            adds_both h k new (makings (absent_journals (present h))) (releasing found (counted found.ops (length (absent_journals (present h)))) (present h) pages inner.free) m.adds
            (subst (Adds (Some k) new) same inner.made);
        idle = inner.idle;
      }

  pub done_behind : (old mid new : Option History) (made : ℕ) (result : Result ℕ ConvertFault) → IsMade found old mid made
      → IfOk result (λ count. WhereResting mid found (λ content pages. IsWhole found pages (releasing found made content pages) mid new count))
      → IfOk result (λ count. WhereFound old found (λ content pages. IsWhole found pages (making_first found content pages) old new count))
  done_behind old mid new made (Ok count) m w = whole_behind old mid new made count m w
  done_behind old mid new made (Err fault) m w = tt

  -- wherever a stop cuts the making of all absent journals
  pub keeps_all : (h k : History) (made : ℕ) → IsMade found (Some h) (Some k) made → (pages : List (List ℕ)) → IsFound found (present h) pages
      → KeepsIdle found.page_size (present h) (makings (absent_journals (present h))) (makings (absent_journals (present h))) pages
  keeps_all h k made m pages is =
      let xs = makings (absent_journals (present h)) in
      let s = m.stops in
      let all : h.trace ++ s.made ≡ h.trace ++ xs = ap trace_or (sym s.adds ∙ m.adds) in
      subst (λ (ops : List Operation). KeepsIdle found.page_size (present h) xs ops pages) (append_cancel_left h.trace s.made xs all)
      (s.holds found.page_size pages (idle_found h pages m.places is))

  pub part_behind : (old mid new : Option History) (made : ℕ) → IsMade found old mid made
      → WhereResting mid found (λ content pages. AddsSome mid new (IsPart found content pages (releasing found made content pages)))
      → WhereFound old found (λ content pages. AddsSome old new (IsPart found content pages (making_first found content pages)))
  part_behind None mid new made m p = tt
  part_behind (Some h) None new made m p = let adds = m.adds in absurd cc
  part_behind (Some h) (Some k) new made m p = λ pages is.
      let content = present h in
      let xs = makings (absent_journals content) in
      let inner = p pages (resting h k made m pages is) in
      let free = inner.holds.free in
      let later = releasing found (counted found.ops (length (absent_journals content))) content pages free in
      let keeps = keeps_all h k made m pages is in
      let next = after_made h k xs m.adds in
      record {
        made = xs ++ inner.made;
        adds = adds_both h k new xs inner.made m.adds inner.adds;
        holds = record {
          free = free;
          front = cut_behind xs later inner.made (subst (λ (ops : List Operation). IsCut ops inner.made) (ops_same h k made m pages free) inner.holds.front);
          covered = covered_both content xs inner.made keeps.covered (subst (λ (c : Content). Covered c inner.made) next inner.holds.covered);
          stops = λ cut within.
              ⊎_elim
              (λ (short : IsCut xs cut). inl (keeps.stops cut short).recovers)
              (λ (long : (rest : List Operation) × (cut ≡ xs ++ rest) × IsCut inner.made rest).
              let there : after (present k) long.0 ≡ after content cut =
              ap (λ (c : Content). after c long.0) next ∙ sym (after-append content xs long.0) ∙ ap (after content) (sym long.1) in
              subst (IsOldOrNew found pages free) there (inner.holds.stops long.0 long.2))
              (cut_parts xs inner.made cut within);
        };
      }

  pub part_first : (old mid : Option History) → HasPlaces old
      → IfTold old (λ content. AddsSome old mid (λ ops. (size : ℕ) (pages : List (List ℕ)) → AreIdle size content pages → KeepsIdle size content (makings (absent_journals content)) ops pages))
      → WhereFound old found (λ content pages. AddsSome old mid (IsPart found content pages (making_first found content pages)))
  part_first None mid places stops = tt
  part_first (Some h) mid places stops = λ pages is.
      let content = present h in
      let keeps = stops.holds found.page_size pages (idle_found h pages places is) in
      record {
        made = stops.made;
        adds = stops.adds;
        holds = record {
          free = [];
          front = cut_longer (makings (absent_journals content)) (releasing found (counted found.ops (length (absent_journals content))) content pages []) stops.made keeps.front;
          covered = keeps.covered;
          stops = λ cut within. inl (keeps.stops cut within).recovers;
        };
      }

  pub sound_behind : (old mid : Option History) (made : ℕ) → IsMade found old mid made → (result : Result ℕ ConvertFault)
      → IfErr result (λ fault. WhereHeld mid found (IsDamage (usable_of found) found.pages fault))
      → IfErr result (λ fault. WhereFound old found (λ content pages. IsDamage (usable_of found) found.pages fault (page_in pages)))
  sound_behind old mid made m (Ok count) sound = tt
  sound_behind None mid made m (Err fault) sound = tt
  sound_behind (Some h) None made m (Err fault) sound = let adds = m.adds in absurd cc
  sound_behind (Some h) (Some k) made m (Err fault) sound = λ pages is.
      sound (page_in pages) (held headed wholes found limits (present k) pages (resting h k made m pages is))

pub untouched_behind : (old mid new : Option History) (ops : Content → List Operation) (result : Result ℕ ConvertFault) → Makes old mid ops
    → IfErr result (λ fault. fault ≢ Disk → new ≡ mid) → IfErr result (λ fault. fault ≢ Disk → Makes old new ops)
untouched_behind old mid new ops (Ok count) makes same = tt
untouched_behind old mid new ops (Err fault) makes same = λ other. subst (λ (t : Option History). Makes old t ops) (sym (same other)) makes

-- no damage is found where the disk failed, or where there was no memory
pub damage_plain : (usable count : ℕ) (told : Option History) (found : Recovered) (fault : ConvertFault) → ((page : ℕ) → fault ≢ Corrupt page)
    → WhereHeld told found (IsDamage usable count fault)
damage_plain usable count None found fault other = tt
damage_plain usable count (Some h) found fault other = λ pages holds. by_fault fault other pages
  where
    by_fault : (fault : ConvertFault) → ((page : ℕ) → fault ≢ Corrupt page) → (pages : Paging) → IsDamage usable count fault pages
    by_fault (Corrupt page) other pages = absurd (other page refl)
    by_fault Disk other pages = tt
    by_fault (Full n) other pages = tt
    by_fault Prepared other pages = tt
    by_fault Memory other pages = tt

rose_earlier : (before mid now : ℕ) → before ≤ mid → Rose mid now → Rose before now
rose_earlier before mid now low rose = omega (arith, low, rose)

-- the cause of a later step
fault_behind : (reads mid_reads now_reads ops mid_ops now_ops : ℕ) (fault : ConvertFault) → reads ≤ mid_reads → ops ≤ mid_ops
    → IsReleaseFault mid_reads now_reads mid_ops now_ops fault → IsReleaseFault reads now_reads ops now_ops fault
fault_behind reads mid_reads now_reads ops mid_ops now_ops Disk r o cause = ⊎_elim
    (λ (read : Rose mid_reads now_reads). inl (rose_earlier reads mid_reads now_reads r read))
    (λ (op : Rose mid_ops now_ops). inr (rose_earlier ops mid_ops now_ops o op))
    cause
fault_behind reads mid_reads now_reads ops mid_ops now_ops Memory r o cause = tt
fault_behind reads mid_reads now_reads ops mid_ops now_ops (Corrupt page) r o cause = tt
fault_behind reads mid_reads now_reads ops mid_ops now_ops (Full n) r o cause = cause
fault_behind reads mid_reads now_reads ops mid_ops now_ops Prepared r o cause = cause

pub cause_behind : {T : Type 0} (reads mid_reads now_reads ops mid_ops now_ops : ℕ) (result : Result T ConvertFault) → reads ≤ mid_reads → ops ≤ mid_ops
    → HasReleaseCause mid_reads now_reads mid_ops now_ops result → HasReleaseCause reads now_reads ops now_ops result
cause_behind reads mid_reads now_reads ops mid_ops now_ops (Ok x) r o cause = record {
  reads_later = omega (arith, r, cause.reads_later);
  ops_later = omega (arith, o, cause.ops_later);
  failed = tt;
}
cause_behind reads mid_reads now_reads ops mid_ops now_ops (Err fault) r o cause = record {
  reads_later = omega (arith, r, cause.reads_later);
  ops_later = omega (arith, o, cause.ops_later);
  failed = fault_behind reads mid_reads now_reads ops mid_ops now_ops fault r o cause.failed;
}

fault_read : (reads now ops : ℕ) (fault : ConvertFault) → IsReading reads now fault → IsReleaseFault reads now ops ops fault
fault_read reads now ops Disk cause = inl cause
fault_read reads now ops Memory cause = tt
fault_read reads now ops (Corrupt page) cause = tt
fault_read reads now ops (Full n) cause = cause
fault_read reads now ops Prepared cause = cause

-- the cause of a call that only reads
pub cause_read : {X T : Type 0} (reads now ops now_ops : ℕ) (fault : ConvertFault) → now_ops ≡ ops → HasReading {T = X} reads now (Err fault)
    → HasReleaseCause {T = T} reads now ops now_ops (Err fault)
cause_read {T = T} reads now ops now_ops fault same cause =
    subst (λ (n : ℕ). HasReleaseCause {T = T} reads now ops n (Err fault)) (sym same)
    (record { reads_later = cause.later; ops_later = omega arith; failed = fault_read reads now ops fault cause.failed })

fault_written : (reads now ops now_ops : ℕ) (fault : RewriteFault) → IsCausedBy reads now ops now_ops fault → IsReleaseFault reads now ops now_ops (fault_of fault)
fault_written reads now ops now_ops rewriting.Disk cause = cause
fault_written reads now ops now_ops rewriting.Memory cause = tt

-- the cause of a rewriting that failed
pub cause_written : {X T : Type 0} (reads now ops now_ops : ℕ) (fault : RewriteFault) (given : ConvertFault) → given ≡ fault_of fault → HasCauses {X = X} reads now ops now_ops (Err fault)
    → HasReleaseCause {T = T} reads now ops now_ops (Err given)
cause_written {T = T} reads now ops now_ops fault given is cause =
    subst (λ (f : ConvertFault). HasReleaseCause {T = T} reads now ops now_ops (Err f)) (sym is)
    (record { reads_later = cause.reads_later; ops_later = cause.ops_later; failed = fault_written reads now ops now_ops fault cause.failed })

pub cause_done : {X T : Type 0} (reads now ops now_ops : ℕ) (x : X) (given : T) → HasCauses reads now ops now_ops (Ok x) → HasReleaseCause reads now ops now_ops (Ok given)
cause_done reads now ops now_ops x given cause = record { reads_later = cause.reads_later; ops_later = cause.ops_later; failed = tt }

-- where a rewriting had no memory, no operation was made
pub written_none : (old new : Option History) (fault : RewriteFault) (given : ConvertFault) → given ≡ fault_of fault → (fault ≡ rewriting.Memory → new ≡ old) → given ≢ Disk → new ≡ old
written_none old new rewriting.Disk given is same other = absurd (other is)
written_none old new rewriting.Memory given is same other = same refl

pub written_sound : (fault : RewriteFault) (given : ConvertFault) → given ≡ fault_of fault → (page : ℕ) → given ≢ Corrupt page
written_sound rewriting.Disk given is page = λ same. absurd (let both : Disk ≡ Corrupt page = sym is ∙ same in cc)
written_sound rewriting.Memory given is page = λ same. absurd (let both : Memory ≡ Corrupt page = sym is ∙ same in cc)
