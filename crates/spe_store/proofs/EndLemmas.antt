-- A transaction ends: its journal is cut, where it has bytes.
use Rattle.std.proofs.Common.{◌≡◌, ℕ, ◌<◌, ◌≤◌, List, [], ◌∷◌, length, refl, sym, ap, ◌∙◌, subst, arith, Bool, true, false, Option, Some, None, Ok, Err}
use Rattle.std.specs.Prelude.{◌⊎◌, ◌==◌, is_some, nat_lt, slice_get, slice_set, if◌then◌else◌}
use Rattle.std.specs.Option.{option_map}
use Rattle.std.proofs.lemmas.Bool.{eq-eqb, ne_eqb}
use Rattle.std.proofs.lemmas.List.{nil_from_length}
use Rattle.spe_model.specs.Big.{u32_at}
use Rattle.spe_model.specs.Content.{Content}
use Rattle.spe_model.specs.Recovery.{file_page_size, journal_of}
use Rattle.spe_model.specs.Rollback.{cut_of}
use Rattle.spe_model.specs.Trace.{History, IsTorn, Operation, present}
use Rattle.spe_transactions.specs.Made.{Makes}
use Rattle.spe_transactions.specs.Pages.{named_count}
use Rattle.spe_transactions.specs.Work.{Works, without_id}
use Rattle.spe_transactions.proofs.CutWorkLemmas.{bare_ends, drop_works}
use Rattle.spe_transactions.proofs.MovedLemmas.{IsMoved, moved, moved_size}
use Rattle.spe_transactions.proofs.WorksLemmas.{dropped_other, dropped_own}
use Rattle.spe_store.specs.declared.stop.Stop.{Stop}
use Rattle.spe_store.specs.declared.work.Work.{Work}
use Rattle.spe_store.specs.Desk.{Desk, Does, TriesIf}
use Rattle.spe_store.specs.Event.{Event, broken_in, entries_in, journalled_in, lives_in, open_in, out_in, written_in}
use Rattle.spe_store.specs.Event.Event.{Committed, Dropped}
use Rattle.spe_store.specs.Saved.{saved_at}
use Rattle.spe_store.specs.Opened.{Opened}
use Rattle.spe_store.specs.Store.{AreListed, IsEnd, IsListed, IsOrder, IsServing, IsStored, Order, Store, due_count, pages_in}
use Rattle.spe_store.specs.Call.{CutsIf, IsUndone}
use Rattle.spe_store.specs.Served.{AreKept}
use Rattle.spe_store.specs.Work.{HasEnded}
use Rattle.spe_store.specs.declared.log.Log.{Log}
use Rattle.spe_store.proofs.HeldLemmas.{added, done_held, due_fewer, listed, order_on, part_kept, quiet_held, refused_held, replaced, step_on}
use Rattle.spe_store.proofs.ListLemmas.{set_length}
use Rattle.spe_store.proofs.OpenLemmas.{none_end, now_is}

module _ (opened : Opened) (s : Store) (works : List Work) (order : Order) (i : IsStored opened s works order) (id : ℕ) (w : Work) where
  -- a failed cut
  pub end_refused : (desk : Desk) (stop : Stop) → TriesIf (nat_lt 0 w.end) s.desk desk (cut_of id) (Err stop)
      → (AreListed s.page_size s.events works → (h : History) → s.desk.told ≡ Some h → IsServing opened h s.events s.page_size s.count works → (part : Operation) → (part ≡ cut_of id) ⊎ IsTorn (cut_of id) part → AreKept opened (added h part) (entries_in s.events))
      → IsStored opened (record { desk = desk; events = s.events; page_size = s.page_size; count = s.count }) works order
  end_refused desk stop tried broken = by_end (nat_lt 0 w.end) tried
    where
      by_end : (some : Bool) → TriesIf some s.desk desk (cut_of id) (Err stop) → IsStored opened (record { desk = desk; events = s.events; page_size = s.page_size; count = s.count }) works order
      by_end true t = refused_held opened s works order i desk (cut_of id) stop t broken works i.all i.room
      by_end false t = subst (λ (d : Desk). IsStored opened (record { desk = d; events = s.events; page_size = s.page_size; count = s.count }) works order) (sym t.1) i

-- a transaction without a journal
pub bare_at : (opened : Opened) (s : Store) (works : List Work) (id : ℕ) (w : Work) → slice_get works id ≡ Some w → nat_lt 0 w.end ≡ false → (h : History) → (v : IsServing opened h s.events s.page_size s.count works) → journal_of (present h) id ≡ []
bare_at opened s works id w found none h v = nil_from_length (journal_of (present h) id) (sym (v.ends id w found).at ∙ none_end w.end none)

-- an event that ends a transaction
pub record IsEnding (events : List Event) (id : ℕ) (e : Event) : Type 0 where
  pub journalled : journalled_in (e ∷ events) ≡ without_id id (journalled_in events)
  pub written : written_in (e ∷ events) ≡ without_id id (written_in events)
  pub shuts : (j : ℕ) → open_in (e ∷ events) j ≡ (if j == id then false else open_in events j)
  pub dies : (j : ℕ) → lives_in (e ∷ events) j ≡ (if j == id then false else lives_in events j)
  pub stays : (j : ℕ) → out_in (e ∷ events) j ≡ out_in events j

is_none : (found : Option (List ℕ)) → None ≡ found → is_some found ≡ false
is_none found e = ap is_some (sym e)

module _ (opened : Opened) (s : Store) (works : List Work) (order : Order) (i : IsStored opened s works order) (id : ℕ) (low : id < 16) (w : Work) (found : slice_get works id ≡ Some w) (idle : Work) (is_idle : HasEnded w idle) (e : Event) (ending : IsEnding s.events id e) where
  abbrev events : List Event
  events = e ∷ s.events

  abbrev now : List Work
  now = slice_set works id idle

  at_all : (j p : ℕ) → (f g : Works) → f ≡ g → f j p ≡ g j p
  at_all j p f g same = ap (λ (h : Works). h j p) same

  pub ended_lists : AreListed s.page_size s.events works → AreListed s.page_size events now
  ended_lists lists = replaced (IsListed s.page_size events) works id idle (omega (arith, i.all))
      (λ j x other at.
      let was = lists j x at in
      let journalled = λ (p : ℕ). at_all j p (journalled_in events) (without_id id (journalled_in s.events)) ending.journalled ∙ dropped_other id (journalled_in s.events) j p other in
      let written = λ (p : ℕ). at_all j p (written_in events) (without_id id (written_in s.events)) ending.written ∙ dropped_other id (written_in s.events) j p other in
      record {
        saved = λ p. was.saved p ∙ sym (journalled p);
        changed = λ p has. was.changed p (ap is_some (sym (journalled p)) ∙ has) ∙ ap is_some (sym (written p));
        own = was.own ∙ ap (option_map named_count) (sym (written 1));
        begun = was.begun ∙ sym (ending.shuts j ∙ ap (λ (b : Bool). if b then false else open_in s.events j) (ne_eqb j id other));
        due = was.due ∙ sym (ending.dies j ∙ ap (λ (b : Bool). if b then false else lives_in s.events j) (ne_eqb j id other));
        out = was.out ∙ sym (ending.stays j);
        sized = was.sized;
      })
      (let journalled = λ (p : ℕ). at_all id p (journalled_in events) (without_id id (journalled_in s.events)) ending.journalled ∙ dropped_own id (journalled_in s.events) p in
      let written = λ (p : ℕ). at_all id p (written_in events) (without_id id (written_in s.events)) ending.written ∙ dropped_own id (written_in s.events) p in
      record {
        saved = λ p. ap (saved_at p) is_idle.saved ∙ sym (journalled p);
        changed = λ p has. absurd (let impossible : false ≡ true = sym (ap is_some (journalled p)) ∙ has in cc);
        own = is_idle.own ∙ ap (option_map named_count) (sym (written 1));
        begun = ap (nat_lt 0) is_idle.end ∙ sym (ending.shuts id ∙ ap (λ (b : Bool). if b then false else open_in s.events id) (eq-eqb id id refl));
        due = is_idle.due ∙ sym (ending.dies id ∙ ap (λ (b : Bool). if b then false else lives_in s.events id) (eq-eqb id id refl));
        out = is_idle.out ∙ (lists id w found).out ∙ sym (ending.stays id);
        sized = λ p bytes at. absurd (let impossible : None ≡ Some bytes = sym (ap (saved_at p) is_idle.saved) ∙ at in cc);
      })

  -- the journals after one was cut
  pub ended_ends : (h : History) (v : IsServing opened h s.events s.page_size s.count works) → (j : ℕ) (x : Work) → slice_get now j ≡ Some x → IsEnd (present (added h (cut_of id))) j x
  ended_ends h v =
      let m : IsMoved (present h) (present (added h (cut_of id))) id [] = subst (λ (c : Content). IsMoved (present h) c id []) (sym (now_is h (cut_of id))) (moved (present h) id [] v.kept.work.files low) in
      replaced (IsEnd (present (added h (cut_of id)))) works id idle (omega (arith, i.all))
      (λ j x other at.
      let was = v.ends j x at in
      record {
        at = was.at ∙ ap length (sym (m.others j other));
        nonce = λ begun. ap (λ (journal : List ℕ). u32_at journal 12) (m.others j other) ∙ was.nonce begun;
      })
      (record { at = is_idle.end ∙ sym (ap length m.own); nonce = λ begun. absurd (let none = is_idle.end in omega arith) })

  pub ended_size : (h : History) → (v : IsServing opened h s.events s.page_size s.count works) → s.page_size ≡ file_page_size (present (added h (cut_of id)))
  ended_size h v =
      let m : IsMoved (present h) (present (added h (cut_of id))) id [] = subst (λ (c : Content). IsMoved (present h) c id []) (sym (now_is h (cut_of id))) (moved (present h) id [] v.kept.work.files low) in
      v.sized ∙ sym (moved_size (present h) (present (added h (cut_of id))) id [] m)

  -- where no journal was cut
  pub bare_journal : nat_lt 0 w.end ≡ false → (h : History) → (v : IsServing opened h s.events s.page_size s.count works) → journal_of (present h) id ≡ []
  bare_journal none h v = bare_at opened s works id w found none h v

  pub bare_ends_now : nat_lt 0 w.end ≡ false → (h : History) → (v : IsServing opened h s.events s.page_size s.count works) → (j : ℕ) (x : Work) → slice_get now j ≡ Some x → IsEnd (present h) j x
  bare_ends_now none h v = replaced (IsEnd (present h)) works id idle (omega (arith, i.all)) (λ j x other at. v.ends j x at)
      (record { at = is_idle.end ∙ sym (ap length (bare_journal none h v)); nonce = λ begun. absurd (let zero = is_idle.end in omega arith) })

  -- a cut that was made, or was not wanted
  pub end_done : (desk : Desk) (count : ℕ) (list : Order) → due_count now ≤ list.room → IsOrder (entries_in events) desk.ops list → broken_in events ≡ None → TriesIf (nat_lt 0 w.end) s.desk desk (cut_of id) (Ok tt)
      → (Does s.desk desk (cut_of id) → AreListed s.page_size s.events works → (h : History) → s.desk.told ≡ Some h → IsServing opened h s.events s.page_size s.count works → IsServing opened (added h (cut_of id)) events s.page_size count now)
      → (desk ≡ s.desk → s.desk.stopped ≡ None → nat_lt 0 w.end ≡ false → AreListed s.page_size s.events works → (h : History) → s.desk.told ≡ Some h → IsServing opened h s.events s.page_size s.count works → IsServing opened h events s.page_size count now)
      → IsStored opened (record { desk = desk; events = events; page_size = s.page_size; count = count }) now list
  end_done desk count list room ordered unbroken tried cut bare = by_end (nat_lt 0 w.end) refl tried
    where
      by_end : (some : Bool) → nat_lt 0 w.end ≡ some → TriesIf some s.desk desk (cut_of id) (Ok tt) → IsStored opened (record { desk = desk; events = events; page_size = s.page_size; count = count }) now list
      by_end true some t = done_held opened s works order i desk (cut_of id) t events count now list (set_length works id idle ∙ i.all) room ordered unbroken ended_lists (cut t)
      by_end false some t =
          subst (λ (d : Desk). IsStored opened (record { desk = d; events = events; page_size = s.page_size; count = count }) now list) (sym t.1)
          (quiet_held opened s works order i t.0 events count now list (set_length works id idle ∙ i.all) room (subst (λ (d : Desk). IsOrder (entries_in events) d.ops list) t.1 ordered) unbroken ended_lists (bare t.1 t.0 some))

-- a transaction is dropped
pub dropping : (events : List Event) (id : ℕ) → IsEnding events id (Dropped id)
dropping es id = record { journalled = refl; written = refl; shuts = λ j. refl; dies = λ j. refl; stays = λ j. refl }

pub committing : (events : List Event) (id session ops : ℕ) (log : Log) → IsEnding events id (Committed id session ops log)
committing es id session ops log = record { journalled = refl; written = refl; shuts = λ j. refl; dies = λ j. refl; stays = λ j. refl }

module _ (opened : Opened) (s : Store) (works : List Work) (order : Order) (i : IsStored opened s works order) (id : ℕ) (low : id < 16) (undone : IsUndone s id) (w : Work) (found : slice_get works id ≡ Some w) (desk : Desk) where
  drops : (h : History) → (v : IsServing opened h s.events s.page_size s.count works) → Makes (present h) (cut_of id) (pages_in opened s.events) (pages_in opened s.events) (without_id id (journalled_in s.events)) (without_id id (written_in s.events))
  drops h v = drop_works (present h) (pages_in opened s.events) (journalled_in s.events) (written_in s.events) v.kept.work id low undone

  pub drop_refused : (stop : Stop) → TriesIf (nat_lt 0 w.end) s.desk desk (cut_of id) (Err stop) → IsStored opened (record { desk = desk; events = s.events; page_size = s.page_size; count = s.count }) works order
  drop_refused stop tried = end_refused opened s works order i id w desk stop tried
      (λ lists h told v part left. part_kept opened s works order i h v (cut_of id) (without_id id (journalled_in s.events)) (without_id id (written_in s.events)) (drops h v) part left)

  drop_order : (some : Bool) → TriesIf some s.desk desk (cut_of id) (Ok tt) → IsOrder (entries_in s.events) desk.ops order
  drop_order true t = order_on opened s works order i desk (cut_of id) t
  drop_order false t = subst (λ (d : Desk). IsOrder (entries_in s.events) d.ops order) (sym t.1) i.ordered

  pub drop_done : TriesIf (nat_lt 0 w.end) s.desk desk (cut_of id) (Ok tt) → (idle : Work) → HasEnded w idle → (at : ℕ) → at ≡ id → (now : List Event) → now ≡ Dropped id ∷ s.events
      → IsStored opened (record { desk = desk; events = now; page_size = s.page_size; count = s.count }) (slice_set works at idle) order
  drop_done tried idle is_idle at same after is =
      let end = dropping s.events id in
      subst (λ (es : List Event). IsStored opened (record { desk = desk; events = es; page_size = s.page_size; count = s.count }) (slice_set works at idle) order) (sym is)
      (subst (λ (n : ℕ). IsStored opened (record { desk = desk; events = Dropped id ∷ s.events; page_size = s.page_size; count = s.count }) (slice_set works n idle) order) (sym same)
      (end_done opened s works order i id low w found idle is_idle (Dropped id) end desk s.count order
      (let few = due_fewer works id w idle found is_idle.due in let room = i.room in omega arith)
      (drop_order (nat_lt 0 w.end) tried) refl tried
      (λ does lists h told v.
      record {
        kept = step_on opened s works order i h v (cut_of id) (without_id id (journalled_in s.events)) (without_id id (written_in s.events)) (drops h v);
        seen = v.seen;
        counted = v.counted;
        sized = ended_size opened s works order i id low w found idle is_idle (Dropped id) end h v;
        ends = ended_ends opened s works order i id low w found idle is_idle (Dropped id) end h v;
      })
      (λ same going none lists h told v.
      record {
        kept = record {
          stops = v.kept.stops;
          work = (bare_ends (present h) (pages_in opened s.events) (journalled_in s.events) (written_in s.events) v.kept.work id low (bare_journal opened s works order i id low w found idle is_idle (Dropped id) end none h v)).work;
        };
        seen = v.seen;
        counted = v.counted;
        sized = v.sized;
        ends = bare_ends_now opened s works order i id low w found idle is_idle (Dropped id) end none h v;
      })))

  pub drop_cuts : s.desk.stopped ≡ None → TriesIf (nat_lt 0 w.end) s.desk desk (cut_of id) (Ok tt) → CutsIf (open_in s.events id) s.desk desk (cut_of id)
  drop_cuts going tried = subst (λ (b : Bool). CutsIf b s.desk desk (cut_of id)) (listed opened s works order i going id w found).begun (by_end (nat_lt 0 w.end) tried)
    where
      by_end : (some : Bool) → TriesIf some s.desk desk (cut_of id) (Ok tt) → CutsIf some s.desk desk (cut_of id)
      by_end true t = t
      by_end false t = t
