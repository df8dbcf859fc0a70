-- A store begins: the absent journals are made.
use Rattle.std.proofs.Common.{◌≡◌, ◌≢◌, ℕ, suc, zero, ◌+◌, ◌<◌, ◌≤◌, List, [], ◌∷◌, ◌++◌, length, filter, All, refl, sym, ap, ◌∙◌, subst, arith, Bool, true, false, Option, Some, None, Result, Ok, Err, ⊎_elim}
use Rattle.std.specs.Prelude.{is_none, nat_lt, slice_get}
use Rattle.std.specs.List.{range_with_len}
use Rattle.std.specs.Option.{option_map}
use Rattle.std.proofs.lemmas.Bool.{cases_Bool, cases_eq}
use Rattle.std.proofs.lemmas.List.{append-nil, append_assoc, length-append, length-map}
use Rattle.std.proofs.lemmas.List.Elements.{All-cons, All-head, All-nil, All-tail}
use Rattle.spe_model.specs.declared.commit.Commit as model
use Rattle.spe_model.specs.declared.file.FileNo.TheVariants.{Journal}
use Rattle.spe_model.specs.Content.{Content, file_of}
use Rattle.spe_model.specs.Recovery.{journal_of}
use Rattle.spe_model.specs.Rollback.{cut_of}
use Rattle.spe_model.specs.Trace.{History, Operation, present}
use Rattle.spe_disk.specs.Told.{MakesJournals, absent_among, absent_below, absent_journals, makings}
use Rattle.spe_disk.specs.declared.disk.Failed.{Failed}
use Rattle.spe_transactions.specs.Kept.{WorkKept, grown}
use Rattle.spe_transactions.specs.Work.{no_works}
use Rattle.spe_transactions.proofs.GrowthLemmas.{opening_kept, step_kept}
use Rattle.spe_transactions.proofs.JournalLemmas.{made_works}
use Rattle.spe_transactions.proofs.MovedLemmas.{IsMoved, moved}
use Rattle.spe_transactions.proofs.PageLemmas.{size_is}
use Rattle.spe_store.specs.declared.work.Work.{Work}
use Rattle.spe_store.specs.Call.{CutsAreServed, HasOpened}
use Rattle.spe_store.specs.Desk.{Counts, Desk}
use Rattle.spe_store.specs.Opened.{Opened}
use Rattle.spe_store.specs.Saved.{saved_at}
use Rattle.spe_store.specs.Served.{Says}
use Rattle.spe_store.specs.Store.{AreListed, IfTold, IsServing, IsStored, NeverFall, Order, due_count}
use Rattle.spe_store.specs.Work.{AreIdle, IsIdle}
use Rattle.spe_store.proofs.HeldLemmas.{added}
use Rattle.spe_store.proofs.LeftLemmas.{each_cut}
use Rattle.spe_store.proofs.OpenLemmas.{now_is}

get_All : (works : List Work) (n : ℕ) (w : Work) → All IsIdle works → slice_get works n ≡ Some w → IsIdle w
get_All [] n w all found = absurd cc
get_All (x ∷ xs) zero w all found = let same : x ≡ w = cc in subst IsIdle same (All-head IsIdle x xs all)
get_All (x ∷ xs) (suc n) w all found = get_All xs n w (All-tail IsIdle x xs all) found

get_low : (works : List Work) (n : ℕ) (w : Work) → slice_get works n ≡ Some w → n < length works
get_low [] n w found = absurd cc
get_low (x ∷ xs) zero w found = omega arith
get_low (x ∷ xs) (suc n) w found = let low = get_low xs n w found in omega arith

none_due : (works : List Work) → All IsIdle works → due_count works ≡ 0
none_due [] all = refl
none_due (x ∷ xs) all = rw ((All-head IsIdle x xs all).due) (none_due xs (All-tail IsIdle x xs all))

-- numbers that pass a test are among those
filter_low : (test : ℕ → Bool) (bound : ℕ) (ns : List ℕ) → All (λ n. n < bound) ns → All (λ n. n < bound) (filter test ns)
filter_low test bound [] all = All-nil (λ n. n < bound)
filter_low test bound (n ∷ ns) all =
    let rest = filter_low test bound ns (All-tail (λ m. m < bound) n ns all) in
    ⊎_elim (λ (is : test n ≡ true). rw is (All-cons (λ m. m < bound) n (filter test ns) (All-head (λ m. m < bound) n ns all) rest)) (λ (is_not : test n ≡ false). rw is_not rest) (cases_Bool (test n))

range_low : (from count bound : ℕ) → from + count ≤ bound → All (λ n. n < bound) (range_with_len from count)
range_low from zero bound low = All-nil (λ n. n < bound)
range_low from (suc count) bound low = All-cons (λ n. n < bound) from (range_with_len (from + 1) count) (omega arith) (range_low (from + 1) count bound (omega arith))

absent_low : (content : Content) → All (λ n. n < 16) (absent_journals content)
unfolding absent_below absent_among
absent_low content = filter_low (λ n. is_none (file_of content (Journal n))) 16 (range_with_len 0 16) (range_low 0 16 16 (omega arith))

front_low : (all front rest : List ℕ) → all ≡ front ++ rest → All (λ n. n < 16) all → All (λ n. n < 16) front
front_low all front rest is low = part front rest (subst (All (λ n. n < 16)) is low)
  where
    part : (front rest : List ℕ) → All (λ n. n < 16) (front ++ rest) → All (λ n. n < 16) front
    part [] rest low = All-nil (λ n. n < 16)
    part (n ∷ ns) rest low = All-cons (λ m. m < 16) n ns (All-head (λ m. m < 16) n (ns ++ rest) low) (part ns rest (All-tail (λ m. m < 16) n (ns ++ rest) low))

-- files without a transaction, whose journals have no bytes
pub record IsQuiet (opened : Opened) (h : History) : Type 0 where
  pub kept : WorkKept (Says opened []) opened.pages h [] no_works no_works
  pub quiet : (id : ℕ) → id < 16 → journal_of (present h) id ≡ []

quiet_opening : (opened : Opened) (h : History) → HasOpened opened h → IsQuiet opened h
quiet_opening opened h o = record { kept = opening_kept (Says opened []) opened.pages h o.opening (λ db served. served); quiet = o.opening.quiet }

one_made : (opened : Opened) (h : History) (n : ℕ) → n < 16 → IsQuiet opened h → IsQuiet opened (added h (cut_of n))
one_made opened h n low q =
    let m : IsMoved (present h) (present (added h (cut_of n))) n [] = subst (λ (c : Content). IsMoved (present h) c n []) (sym (now_is h (cut_of n))) (moved (present h) n [] q.kept.work.files low) in
    record {
      kept =
          step_kept (Says opened []) opened.pages h [] no_works no_works q.kept (cut_of n) no_works no_works
          (made_works (present h) opened.pages no_works no_works q.kept.work n low (q.quiet n low));
      quiet = λ id small. ⊎_elim (λ (own : id ≡ n). ap (journal_of (present (added h (cut_of n)))) own ∙ m.own) (λ (other : id ≢ n). m.others id other ∙ q.quiet id small) (cases_eq id n);
    }

all_made : (opened : Opened) (h : History) (ns : List ℕ) → All (λ n. n < 16) ns → IsQuiet opened h → IsQuiet opened (grown h (makings ns))
all_made opened h [] all q = subst (λ (os : List Operation). IsQuiet opened (record { first = h.first; trace = os })) (sym (append-nil h.trace)) (record { kept = q.kept; quiet = q.quiet })
all_made opened h (n ∷ ns) all q =
    subst (λ (os : List Operation). IsQuiet opened (record { first = h.first; trace = os })) (append_assoc h.trace (cut_of n ∷ []) (makings ns))
    (all_made opened (added h (cut_of n)) ns (All-tail (λ m. m < 16) n ns all) (one_made opened h n (All-head (λ m. m < 16) n ns all) q))

abbrev first_of : Option History → Option Content
first_of told = option_map (λ (h : History). h.first) told

-- what the journals' making leaves, made or not
pub record IsBegun (opened : Opened) (told : Option History) (ops : ℕ) : Type 0 where
  pub first : first_of told ≡ opened.first
  pub counts : Counts told None ops
  pub quiet : IfTold told (IsQuiet opened)

pub begun : (opened : Opened) (told now : Option History) (made : ℕ) → first_of told ≡ opened.first → IfTold told (HasOpened opened) → MakesJournals told now (Ok made) → (ops : ℕ) → ops ≡ opened.found.ops + made → IsBegun opened now ops
begun opened None now made first o makes ops is = subst (λ (t : Option History). IsBegun opened t ops) (sym makes) (record { first = first; counts = tt; quiet = tt })
begun opened (Some h) now made first o makes ops is =
    subst (λ (t : Option History). IsBegun opened t ops) (sym makes.1)
    (record {
      first = first;
      counts = is ∙ ap (λ (n : ℕ). n + made) o.made ∙ ap (λ (n : ℕ). length h.trace + n) (makes.0 ∙ sym (length-map (absent_journals (present h)) (λ (n : ℕ). cut_of n))) ∙ sym (length-append h.trace (makings (absent_journals (present h))));
      quiet = all_made opened h (absent_journals (present h)) (absent_low (present h)) (quiet_opening opened h o);
    })

cuts_quiet : (opened : Opened) (h : History) → IsQuiet opened h → CutsAreServed opened h []
cuts_quiet opened h q = each_cut opened h [] q.kept.stops

-- as the disk was attached
pub cuts_first : (opened : Opened) (told : Option History) → IfTold told (HasOpened opened) → IfTold told (λ h. CutsAreServed opened h [])
cuts_first opened None o = tt
cuts_first opened (Some h) o = cuts_quiet opened h (quiet_opening opened h o)

pub cuts_begun : (opened : Opened) (told : Option History) (ops : ℕ) → IsBegun opened told ops → IfTold told (λ h. CutsAreServed opened h [])
cuts_begun opened None ops b = tt
cuts_begun opened (Some h) ops b = cuts_quiet opened h b.quiet

-- some journals were made, and then the disk failed
pub cuts_failed : (opened : Opened) (told now : Option History) (e : Failed) → IfTold told (HasOpened opened) → MakesJournals told now (Err e) → IfTold now (λ h. CutsAreServed opened h [])
cuts_failed opened None now e o makes = subst (λ (t : Option History). IfTold t (λ h. CutsAreServed opened h [])) (sym makes) tt
cuts_failed opened (Some h) now e o makes =
    subst (λ (t : Option History). IfTold t (λ g. CutsAreServed opened g [])) (sym makes.3)
    (cuts_quiet opened (grown h (makings makes.0)) (all_made opened h makes.0 (front_low (absent_journals (present h)) makes.0 makes.1 makes.2 (absent_low (present h))) (quiet_opening opened h o)))

-- whatever was made, the disk is that of the opening
pub same_first : (told now : Option History) (first : Option Content) (result : Result ℕ Failed) → first_of told ≡ first → MakesJournals told now result → first_of now ≡ first
same_first None now first result is makes = ap first_of makes ∙ is
same_first (Some h) now first (Ok made) is makes = ap first_of makes.1 ∙ is
same_first (Some h) now first (Err e) is makes = ap first_of makes.3 ∙ is

module _ (opened : Opened) (works : List Work) (idle : AreIdle works) (page_size count ops : ℕ) (low : 512 ≤ page_size) (high : page_size ≤ 65536) (size_is_found : page_size ≡ opened.found.page_size) (count_is_found : count ≡ opened.found.pages) where
  lists : AreListed page_size [] works
  lists id w found =
      let i : IsIdle w = get_All works id w idle.each found in
      record {
        saved = λ p. ap (saved_at p) i.saved;
        changed = λ p has. absurd cc;
        own = i.own;
        begun = ap (nat_lt 0) i.end;
        due = i.due;
        out = i.out;
        sized = λ p bytes at. absurd (let impossible : None ≡ Some bytes = sym (ap (saved_at p) i.saved) ∙ at in cc);
      }

  serves : (h : History) → (o : History) → HasOpened opened o → IsQuiet opened h → IsServing opened h [] page_size count works
  serves h o was q = record {
    kept = q.kept;
    seen = λ id p. All-nil _;
    counted = count_is_found ∙ was.found.counted;
    sized = size_is_found ∙ was.found.sized ∙ size_is (present o) opened.pages was.found.recovers ∙ sym (size_is (present h) opened.pages q.kept.work.recovers);
    ends = λ id w found.
        let i : IsIdle w = get_All works id w idle.each found in
        let small : id < 16 = let in_works = get_low works id w found in omega (arith, idle.all) in
        record { at = i.end ∙ sym (ap length (q.quiet id small)); nonce = λ some. absurd (let none = i.end in omega arith) };
  }

  pub new_stored : (told now : Option History) (made : ℕ) → IfTold told (HasOpened opened) → MakesJournals told now (Ok made) → IsBegun opened now ops → (desk : Desk) (reads faults : ℕ)
      → desk ≡ record { told = now; ops = ops; stopped = None; reads = reads; faults = faults } → opened.reads ≤ reads → opened.faults ≤ faults → (order : Order) → order.rows ≡ []
      → IsStored opened (record { desk = desk; events = []; page_size = page_size; count = count }) works order
  new_stored told now made o makes b desk reads faults is more_reads more_faults order none =
      subst (λ (d : Desk). IsStored opened (record { desk = d; events = []; page_size = page_size; count = count }) works order) (sym is)
      (record {
        low = low;
        high = high;
        found = size_is_found;
        all = idle.all;
        of = record { first = b.first; reads = more_reads; faults = more_faults; cause = λ op stopped. absurd cc };
        ordered = record { rows = none; ended = subst (All (λ (c : model.Commit). c.ops ≤ ops)) (sym none) (All-nil (λ (c : model.Commit). c.ops ≤ ops)); sorted = subst NeverFall (sym none) tt };
        room = omega (arith, none_due works idle.each);
        held = record { unbroken = refl; listed = lists; served = by_told told now o makes b.quiet };
      })
    where
      by_told : (told now : Option History) → IfTold told (HasOpened opened) → MakesJournals told now (Ok made) → IfTold now (IsQuiet opened) → IfTold now (λ h. IsServing opened h [] page_size count works)
      by_told told None o makes q = tt
      by_told None (Some h) o makes q = absurd (let impossible : Some h ≡ None = makes in cc)
      by_told (Some was) (Some h) o makes q = serves h was o q
