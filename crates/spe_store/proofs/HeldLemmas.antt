-- What holds of a store after an operation was tried.
use Rattle.std.proofs.Common.{◌≡◌, ◌≢◌, ℕ, zero, suc, ◌-◌, ◌^◌, ◌<◌, ◌≤◌, List, [], ◌∷◌, length, All, refl, sym, ap, ◌∙◌, subst, arith, Bool, true, false, Option, Some, None, Err, ⊎_elim, inl, inr}
use Rattle.std.specs.Prelude.{◌⊎◌, slice_get, slice_set, if◌then◌else◌}
use Rattle.std.specs.Option.{option_map}
use Rattle.std.proofs.lemmas.Bool.{cases_Bool, cases_eq}
use Rattle.std.proofs.lemmas.List.Elements.{All-cons, All-head, All-nil, All-tail}
use Rattle.spe_model.specs.declared.commit.Commit as model
use Rattle.spe_model.specs.Content.{Content}
use Rattle.spe_model.specs.Faults.{Rose}
use Rattle.spe_model.specs.Paging.{Given}
use Rattle.spe_model.specs.Trace.{History, IsTorn, Operation, present}
use Rattle.spe_disk.specs.Told.{Adds}
use Rattle.spe_transactions.specs.Kept.{WorkKept, grown}
use Rattle.spe_transactions.specs.Made.{Makes}
use Rattle.spe_transactions.specs.Work.{Works}
use Rattle.spe_transactions.proofs.GrowthLemmas.{step_kept, stop_kept}
use Rattle.spe_store.specs.declared.stop.Stop.{Stop}
use Rattle.spe_store.specs.declared.work.Work.{Work}
use Rattle.spe_store.specs.Desk.{Breaks, Desk, Does, LeavesPart, Looks, Tries}
use Rattle.spe_store.specs.Event.{Event, broken_in, entries_in, journalled_in, seen_in, written_in}
use Rattle.spe_store.specs.Opened.{Opened}
use Rattle.spe_store.specs.Served.{AreKept, AreLeft, Entry, Says, commits_of, pages_of}
use Rattle.spe_store.specs.Store.{AreListed, AreSeen, IfTold, IsGoing, IsHalted, IsHeld, IsOf, IsOrder, IsServing, IsStored, Order, Store, due_count, pages_in}
use Rattle.spe_store.proofs.ListLemmas.{get_other, get_set}

-- with one operation more
abbrev pub added : History → Operation → History
added h o = grown h (o ∷ [])

-- P of each transaction, where one was put in the place of another
pub replaced : (P : ℕ → Work → Type 0) (works : List Work) (id : ℕ) (x : Work) → id < length works → ((i : ℕ) (w : Work) → i ≢ id → slice_get works i ≡ Some w → P i w) → P id x
    → (i : ℕ) (w : Work) → slice_get (slice_set works id x) i ≡ Some w → P i w
replaced P works id x low others own i w found = ⊎_elim
    (λ (here : i ≡ id).
    let both : Some x ≡ Some w = sym (get_set works id x low) ∙ ap (slice_get (slice_set works id x)) (sym here) ∙ found in
    let same : x ≡ w = cc in
    subst (λ (n : ℕ). P n w) (sym here) (subst (P id) same own))
    (λ (other : i ≢ id). others i w other (sym (get_other works id i x other) ∙ found))
    (cases_eq i id)

-- as many may still commit
pub due_same : (works : List Work) (id : ℕ) (w x : Work) → slice_get works id ≡ Some w → x.due ≡ w.due → due_count (slice_set works id x) ≡ due_count works
due_same [] id w x found same = refl
due_same (y ∷ ys) zero w x found same =
    let is : y ≡ w = cc in
    ap (λ (b : Bool). if b then suc (due_count ys) else due_count ys) (same ∙ ap (λ (v : Work). v.due) (sym is))
due_same (y ∷ ys) (suc n) w x found same = ap (λ (k : ℕ). if y.due then suc k else k) (due_same ys n w x found same)

-- one that may commit is not counted any more
pub due_less : (works : List Work) (id : ℕ) (w x : Work) → slice_get works id ≡ Some w → w.due ≡ true → x.due ≡ false → suc (due_count (slice_set works id x)) ≡ due_count works
due_less [] id w x found was now = absurd cc
due_less (y ∷ ys) zero w x found was now =
    let is : y ≡ w = cc in
    let due : y.due ≡ true = ap (λ (v : Work). v.due) is ∙ was in
    rw (now, due) refl
due_less (y ∷ ys) (suc n) w x found was now =
    let rest = due_less ys n w x found was now in
    ⊎_elim (λ (due : y.due ≡ true). rw due (ap suc rest)) (λ (lacks : y.due ≡ false). rw lacks rest) (cases_Bool y.due)

pub due_some : (works : List Work) (id : ℕ) (w : Work) → slice_get works id ≡ Some w → w.due ≡ true → 0 < due_count works
due_some [] id w found was = absurd cc
due_some (y ∷ ys) zero w found was =
    let is : y ≡ w = cc in
    let due : y.due ≡ true = ap (λ (v : Work). v.due) is ∙ was in
    rw due (omega arith)
due_some (y ∷ ys) (suc n) w found was =
    let rest = due_some ys n w found was in
    ⊎_elim (λ (due : y.due ≡ true). rw due (omega arith)) (λ (lacks : y.due ≡ false). rw lacks rest) (cases_Bool y.due)

pub due_fewer : (works : List Work) (id : ℕ) (w x : Work) → slice_get works id ≡ Some w → x.due ≡ false → due_count (slice_set works id x) ≤ due_count works
due_fewer works id w x found now = ⊎_elim
    (λ (was : w.due ≡ true). let less = due_less works id w x found was now in omega (arith, less))
    (λ (was : w.due ≡ false). let same = due_same works id w x found (now ∙ sym was) in omega (arith, same))
    (cases_Bool w.due)

rose_from : (a b c : ℕ) → a ≤ b → Rose b c → Rose a c
rose_from a b c low rose = omega (arith, rose)

abbrev first_of : Option History → Option Content
first_of told = option_map (λ (h : History). h.first) told

adds_first : (old new : Option History) (os : List Operation) → Adds old new os → first_of new ≡ first_of old
adds_first None new os adds = ap first_of adds
adds_first (Some h) new os adds = ap first_of adds

leaves_first : (old new : Option History) (o : Operation) → LeavesPart old new o → first_of new ≡ first_of old
leaves_first old new o left = ⊎_elim (λ (same : new ≡ old). ap first_of same) (λ (p : (part : Operation) × ((part ≡ o) ⊎ IsTorn o part) × Adds old new (part ∷ [])). adds_first old new (p.0 ∷ []) p.2) left

none_some : (stopped : Option ℕ) (op : ℕ) → stopped ≡ None → stopped ≡ Some op → ⊥
none_some stopped op a b = let both : None ≡ Some op = sym a ∙ b in cc

module _ (opened : Opened) (d e : Desk) (of : IsOf opened d) where
  pub does_of : (o : Operation) → Does d e o → IsOf opened e
  does_of o does = record {
    first = adds_first d.told e.told (o ∷ []) does.adds ∙ of.first;
    reads = let was = of.reads in omega (arith, does.reads);
    faults = let was = of.faults in let more = does.faults in omega arith;
    cause = λ op stopped. absurd (none_some e.stopped op does.still stopped);
  }

  pub breaks_of : (o : Operation) (n : ℕ) → Breaks d e o n → IsOf opened e
  breaks_of o n b = record {
    first = leaves_first d.told e.told o b.left ∙ of.first;
    reads = let was = of.reads in omega (arith, b.reads);
    faults = let was = of.faults in let more = b.faults in omega arith;
    cause = λ op stopped. ⊎_elim (λ (rose : Rose d.faults e.faults). inl (rose_from opened.faults d.faults e.faults of.faults rose)) (λ (last : d.ops ≡ 2 ^ 64 - 1). inr (b.ops ∙ last)) b.cause;
  }

  pub looks_of : Looks d e → IsOf opened e
  looks_of l = record {
    first = ap first_of l.told ∙ of.first;
    reads = let was = of.reads in let more = l.reads in omega arith;
    faults = let was = of.faults in omega (arith, l.faults);
    cause = λ op stopped. ⊎_elim
        (λ (rose : Rose opened.faults d.faults). inl (subst (Rose opened.faults) (sym l.faults) rose))
        (λ (last : d.ops ≡ 2 ^ 64 - 1). inr (l.ops ∙ last))
        (of.cause op (sym l.stopped ∙ stopped));
  }

ended_later : (rows : List model.Commit) (a b : ℕ) → a ≤ b → All (λ (c : model.Commit). c.ops ≤ a) rows → All (λ (c : model.Commit). c.ops ≤ b) rows
ended_later [] a b low all = All-nil (λ (c : model.Commit). c.ops ≤ b)
ended_later (c ∷ cs) a b low all =
    let first : c.ops ≤ a = All-head (λ (x : model.Commit). x.ops ≤ a) c cs all in
    All-cons (λ (x : model.Commit). x.ops ≤ b) c cs (omega arith) (ended_later cs a b low (All-tail (λ (x : model.Commit). x.ops ≤ a) c cs all))

-- the list of commits stays as operations are made
pub order_later : (entries : List Entry) (a b : ℕ) (order : Order) → a ≤ b → IsOrder entries a order → IsOrder entries b order
order_later entries a b order low is = record { rows = is.rows; ended = ended_later order.rows a b low is.ended; sorted = is.sorted }

module _ (opened : Opened) (s : Store) (works : List Work) (order : Order) (i : IsStored opened s works order) where
  abbrev pub at : Desk → List Event → ℕ → Store
  at desk events count = record { desk = desk; events = events; page_size = s.page_size; count = count }

  -- while it has not stopped
  pub goes : s.desk.stopped ≡ None → IsGoing opened s.desk.told s.events s.page_size s.count works
  goes going = subst (λ (stopped : Option ℕ). IsHeld opened stopped s.desk.told s.events s.page_size s.count works) going i.held

  pub listed : s.desk.stopped ≡ None → AreListed s.page_size s.events works
  listed going = (goes going).listed

  pub served : s.desk.stopped ≡ None → IfTold s.desk.told (λ h. IsServing opened h s.events s.page_size s.count works)
  served going = (goes going).served

  abbrev Serves : History → Type 0
  Serves h = IsServing opened h s.events s.page_size s.count works

  -- an operation failed, and these are the events then
  module _ (desk : Desk) (o : Operation) (events : List Event) (entries : entries_in events ≡ entries_in s.events) (sees : seen_in events ≡ seen_in s.events) where
    abbrev Left : History → Type 0
    Left h = AreLeft opened h (entries_in events) (broken_in events)

    abbrev Halted : History → Type 0
    Halted h = IsHalted opened h events

    halted : (h now : History) → Serves h → Left now → Halted now
    halted h now v left = record {
      left = left;
      seen = λ id. subst (λ (es : List Entry). AreSeen (pages_of opened es) (seen_in events id)) (sym entries) (subst (λ (f : ℕ → Given). AreSeen (pages_in opened s.events) (f id)) (sym sees) (v.seen id));
    }

    left_stopped : (told now : Option History) → IfTold told Serves → LeavesPart told now o → ((h : History) → told ≡ Some h → Serves h → Left h)
        → ((h : History) → told ≡ Some h → Serves h → (part : Operation) → (part ≡ o) ⊎ IsTorn o part → now ≡ Some (added h part) → Left (added h part))
        → IfTold now Halted
    left_stopped None now serving left same broken = ⊎_elim
        (λ (is : now ≡ None). subst (λ (t : Option History). IfTold t Halted) (sym is) tt)
        (λ (part : (part : Operation) × ((part ≡ o) ⊎ IsTorn o part) × (now ≡ None)). subst (λ (t : Option History). IfTold t Halted) (sym part.2) tt)
        left
    left_stopped (Some h) now serving left same broken = ⊎_elim
        (λ (is : now ≡ Some h). subst (λ (t : Option History). IfTold t Halted) (sym is) (halted h h serving (same h refl serving)))
        (λ (part : (part : Operation) × ((part ≡ o) ⊎ IsTorn o part) × (now ≡ Some (added h part))). subst (λ (t : Option History). IfTold t Halted) (sym part.2) (halted h (added h part.0) serving (broken h refl serving part.0 part.1 part.2)))
        left

    pub broke_held : (n : ℕ) → Breaks s.desk desk o n
        → ((h : History) → s.desk.told ≡ Some h → Serves h → Left h)
        → ((h : History) → s.desk.told ≡ Some h → Serves h → (part : Operation) → (part ≡ o) ⊎ IsTorn o part → desk.told ≡ Some (added h part) → Left (added h part))
        → (now : List Work) → length now ≡ 16 → due_count now ≤ order.room → IsStored opened (at desk events s.count) now order
    broke_held n b same broken now all room = record {
      low = i.low;
      high = i.high;
      found = i.found;
      all = all;
      of = breaks_of opened s.desk desk i.of o n b;
      ordered = subst (λ (es : List Entry). IsOrder es desk.ops order) (sym entries) (subst (λ (k : ℕ). IsOrder (entries_in s.events) k order) (sym b.ops) i.ordered);
      room = room;
      held = subst (λ (x : Option ℕ). IsHeld opened x desk.told events s.page_size s.count now) (sym b.stopped) (left_stopped s.desk.told desk.told (served b.going) b.left same broken);
    }

  -- an operation failed, now or earlier, and nothing more is listed
  pub refused_held : (desk : Desk) (o : Operation) (stop : Stop) → Tries s.desk desk o (Err stop)
      → (AreListed s.page_size s.events works → (h : History) → s.desk.told ≡ Some h → Serves h → (part : Operation) → (part ≡ o) ⊎ IsTorn o part → AreKept opened (added h part) (entries_in s.events))
      → (now : List Work) → length now ≡ 16 → due_count now ≤ order.room → IsStored opened (at desk s.events s.count) now order
  refused_held desk o stop tried broken now all room = ⊎_elim
      (λ (before : (s.desk.stopped ≡ Some stop.op) × (desk ≡ s.desk)).
      let left : IfTold s.desk.told (λ h. IsHalted opened h s.events) = subst (λ (x : Option ℕ). IsHeld opened x s.desk.told s.events s.page_size s.count works) before.0 i.held in
      subst (λ (d : Desk). IsStored opened (at d s.events s.count) now order) (sym before.1)
      (record { low = i.low; high = i.high; found = i.found; all = all; of = i.of; ordered = i.ordered; room = room; held = subst (λ (x : Option ℕ). IsHeld opened x s.desk.told s.events s.page_size s.count now) (sym before.0) left }))
      (λ (b : Breaks s.desk desk o stop.op).
      broke_held desk o s.events refl refl stop.op b
      (λ h told v. unbroken_left h b.going v.kept.stops)
      (λ h told v part left now_told. unbroken_left (added h part) b.going (broken (listed b.going) h told v part left))
      now all room)
      tried
    where
      unbroken_left : (h : History) → s.desk.stopped ≡ None → AreKept opened h (entries_in s.events) → AreLeft opened h (entries_in s.events) (broken_in s.events)
      unbroken_left h going kept = subst (AreLeft opened h (entries_in s.events)) (sym (goes going).unbroken) kept

  done_told : (told now : Option History) (o : Operation) (P : History → Type 0) → IfTold told Serves → ((h : History) → told ≡ Some h → Serves h → P (added h o)) → Adds told now (o ∷ []) → IfTold now P
  done_told None now o P serving next is = subst (λ (t : Option History). IfTold t P) (sym is) tt
  done_told (Some h) now o P serving next is = subst (λ (t : Option History). IfTold t P) (sym is) (next h refl serving)

  -- an operation was made
  pub done_held : (desk : Desk) (o : Operation) → Does s.desk desk o → (events : List Event) (count : ℕ) (now : List Work) (list : Order) → length now ≡ 16 → due_count now ≤ list.room
      → IsOrder (entries_in events) desk.ops list → broken_in events ≡ None
      → (AreListed s.page_size s.events works → AreListed s.page_size events now)
      → (AreListed s.page_size s.events works → (h : History) → s.desk.told ≡ Some h → Serves h → IsServing opened (added h o) events s.page_size count now)
      → IsStored opened (at desk events count) now list
  done_held desk o does events count now list all room ordered unbroken lists next = record {
    low = i.low;
    high = i.high;
    found = i.found;
    all = all;
    of = does_of opened s.desk desk i.of o does;
    ordered = ordered;
    room = room;
    held =
        let going = goes does.going in
        subst (λ (x : Option ℕ). IsHeld opened x desk.told events s.page_size count now) (sym does.still)
        (record {
          unbroken = unbroken;
          listed = lists going.listed;
          served = done_told s.desk.told desk.told o (λ h. IsServing opened h events s.page_size count now) going.served (next going.listed) does.adds;
        });
  }

  -- the list of commits, once an operation was made that ends none
  pub order_on : (desk : Desk) (o : Operation) → Does s.desk desk o → IsOrder (entries_in s.events) desk.ops order
  order_on desk o does = order_later (entries_in s.events) s.desk.ops desk.ops order (omega (arith, does.ops)) i.ordered

  -- nothing was tried
  pub quiet_held : s.desk.stopped ≡ None → (events : List Event) (count : ℕ) (now : List Work) (list : Order) → length now ≡ 16 → due_count now ≤ list.room
      → IsOrder (entries_in events) s.desk.ops list → broken_in events ≡ None
      → (AreListed s.page_size s.events works → AreListed s.page_size events now)
      → (AreListed s.page_size s.events works → (h : History) → s.desk.told ≡ Some h → Serves h → IsServing opened h events s.page_size count now)
      → IsStored opened (at s.desk events count) now list
  quiet_held going events count now list all room ordered unbroken lists next = record {
    low = i.low;
    high = i.high;
    found = i.found;
    all = all;
    of = i.of;
    ordered = ordered;
    room = room;
    held =
        subst (λ (x : Option ℕ). IsHeld opened x s.desk.told events s.page_size count now) (sym going)
        (record { unbroken = unbroken; listed = lists (goes going).listed; served = by_told s.desk.told refl (goes going).served });
  }
    where
      by_told : (told : Option History) → s.desk.told ≡ told → IfTold told Serves → IfTold told (λ h. IsServing opened h events s.page_size count now)
      by_told None e v = tt
      by_told (Some h) e v = next (goes going).listed h e v

  -- a reading
  pub looks_held : (desk : Desk) → Looks s.desk desk → IsStored opened (at desk s.events s.count) works order
  looks_held desk l = record {
    low = i.low;
    high = i.high;
    found = i.found;
    all = i.all;
    of = looks_of opened s.desk desk i.of l;
    ordered = order_later (entries_in s.events) s.desk.ops desk.ops order (omega (arith, l.ops)) i.ordered;
    room = i.room;
    held =
        subst (λ (x : Option ℕ). IsHeld opened x desk.told s.events s.page_size s.count works) (sym l.stopped)
        (subst (λ (t : Option History). IsHeld opened s.desk.stopped t s.events s.page_size s.count works) (sym l.told) i.held);
  }

  -- an operation that leaves the pages after all commits, whole or broken off
  module _ (h : History) (v : IsServing opened h s.events s.page_size s.count works) (o : Operation) (j w : Works) (m : Makes (present h) o (pages_in opened s.events) (pages_in opened s.events) j w) where
    pub step_on : WorkKept (Says opened (entries_in s.events)) opened.pages (added h o) (commits_of (entries_in s.events)) j w
    step_on = step_kept (Says opened (entries_in s.events)) opened.pages h (commits_of (entries_in s.events)) (journalled_in s.events) (written_in s.events) v.kept o j w m

    pub part_kept : (part : Operation) → (part ≡ o) ⊎ IsTorn o part → AreKept opened (added h part) (entries_in s.events)
    part_kept part left =
        stop_kept (Says opened (entries_in s.events)) opened.pages h (commits_of (entries_in s.events)) (journalled_in s.events) (written_in s.events) v.kept o (part ∷ []) j w m
        (⊎_elim (λ (whole : part ≡ o). inl (whole, tt)) (λ (torn : IsTorn o part). inr (torn, refl)) left)
