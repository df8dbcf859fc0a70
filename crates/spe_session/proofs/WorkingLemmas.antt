-- What the events of a transaction that ends leave.
use Rattle.std.proofs.Common.{◌≡◌, ◌≢◌, ◌<◌, ◌≤◌, ◌+◌, ◌∙◌, ℕ, List, ◌∷◌, Bool, true, false, Option, Some, None, refl, sym, ap, subst, arith, ⊎_elim}
use Rattle.std.specs.Prelude.{◌&&◌, ◌==◌, is_some, if◌then◌else◌}
use Rattle.std.proofs.lemmas.Bool.{cases_eq, cases_lt, eq-eqb, ne_eqb}
use Rattle.spe_model.specs.Faults.{Rose}
use Rattle.spe_model.specs.Paging.{PageMap}
use Rattle.spe_model.specs.Trace.{Operation}
use Rattle.spe_transactions.specs.Work.{has_page}
use Rattle.spe_store.specs.declared.stop.StoreFault.{StoreFault}
use Rattle.spe_store.specs.declared.stop.StoreFault.TheVariants as store
use Rattle.spe_store.specs.Call.{HasHalted, HasJournalled, HasSaved, IsAgain, IsUnsaved}
use Rattle.spe_store.specs.Desk.{Breaks, Desk}
use Rattle.spe_store.specs.Event.{Event, journalled_in, written_in}
use Rattle.spe_store.specs.Event.Event.{Journalled, Opened as OpenedNow, Written}
use Rattle.spe_store.specs.Opened.{Opened}
use Rattle.spe_store.specs.Pass.{Pass}
use Rattle.spe_store.specs.Store.{HadStopped, HasDone, IsRefused, OnStop, Store}
use Rattle.spe_session.specs.Alone.{IsAlone}
use Rattle.spe_session.specs.Ending.{FailsEnd}
use Rattle.spe_session.specs.Pages.{are_numbered, bytes_at}
use Rattle.spe_session.specs.Working.{AreSaved, Carries, IsFault, IsWrittenTo, Saves, Writes, WritesOne, end_fault}
use Rattle.spe_session.proofs.FrontLemmas.{first_put}

pub carries_none : (id : ℕ) (es : List Event) → Carries id es es
carries_none id es = record { alone = λ a. a; lives = refl; seen = refl; entries = refl; opens = λ o. o; broken = λ b. b }

pub carries_both : (id : ℕ) (a b c : List Event) → Carries id a b → Carries id b c → Carries id a c
carries_both id a b c first second = record {
  alone = λ x. second.alone (first.alone x);
  lives = second.lives ∙ first.lives;
  seen = second.seen ∙ first.seen;
  entries = second.entries ∙ first.entries;
  opens = λ x. second.opens (first.opens x);
  broken = λ x. second.broken (first.broken x);
}

pub saves_none : (id : ℕ) (es : List Event) → Saves id es es
saves_none id es = record { carries = carries_none id es; kept = λ p has. has; written = refl }

pub saves_both : (id : ℕ) (a b c : List Event) → Saves id a b → Saves id b c → Saves id a c
saves_both id a b c first second = record {
  carries = carries_both id a b c first.carries second.carries;
  kept = λ p has. second.kept p (first.kept p has);
  written = second.written ∙ first.written;
}

carries_journalled : (id page : ℕ) (bytes : List ℕ) (es : List Event) → Carries id es (Journalled id page bytes ∷ es)
carries_journalled id page bytes es = record {
  alone = λ alone i other. let a = alone i other in record { closed = a.closed; back = a.back; ended = a.ended; unsaved = λ p. rw (ne_eqb i id other) (a.unsaved p); unwritten = a.unwritten; unseen = a.unseen };
  lives = refl;
  seen = refl;
  entries = refl;
  opens = λ o. o;
  broken = λ b. refl;
}

saves_journalled : (id page : ℕ) (bytes : List ℕ) (es : List Event) → Saves id es (Journalled id page bytes ∷ es)
saves_journalled id page bytes es = record {
  carries = carries_journalled id page bytes es;
  kept = λ p has. by_page ((id == id) && (p == page)) p has;
  written = refl;
}
  where
    by_page : (b : Bool) (p : ℕ) → has_page (journalled_in es) id p ≡ true → is_some (if b then Some bytes else journalled_in es id p) ≡ true
    by_page true p has = refl
    by_page false p has = has

pub journal_saves : (opened : Opened) (old new : Store) (before now : Pass) (page : ℕ) → HasJournalled opened old new before now page → Saves before.id old.events new.events
journal_saves opened old new before now page = ⊎_elim
    (λ (a : IsAgain old new before now page). subst (λ (s : Store). Saves before.id old.events s.events) (sym a.same) (saves_none before.id old.events))
    (λ (h : HasSaved opened old new before now page). subst (Saves before.id old.events) (sym h.done.events) (saves_journalled before.id page h.bytes old.events))

pub journal_saved : (opened : Opened) (old new : Store) (before now : Pass) (page : ℕ) → HasJournalled opened old new before now page → has_page (journalled_in new.events) before.id page ≡ true
journal_saved opened old new before now page = ⊎_elim
    (λ (a : IsAgain old new before now page). subst (λ (s : Store). has_page (journalled_in s.events) before.id page ≡ true) (sym a.same) a.has)
    (λ (h : HasSaved opened old new before now page). subst (λ (es : List Event). has_page (journalled_in es) before.id page ≡ true) (sym h.done.events) (rw (eq-eqb before.id before.id refl, eq-eqb page page refl) refl))

-- what is left alone by one journalling
pub record IsSame (old new : Store) (before now : Pass) : Type 0 where
  pub going : new.desk.stopped ≡ None
  pub id : now.id ≡ before.id
  pub sized : new.page_size ≡ old.page_size
  pub counted : new.count ≡ old.count

pub journal_same : (opened : Opened) (old new : Store) (before now : Pass) (page : ℕ) → HasJournalled opened old new before now page → IsSame old new before now
journal_same opened old new before now page = ⊎_elim
    (λ (a : IsAgain old new before now page). record {
      going = ap (λ (s : Store). s.desk.stopped) a.same ∙ a.going;
      id = ap (λ (p : Pass). p.id) a.pass;
      sized = ap (λ (s : Store). s.page_size) a.same;
      counted = ap (λ (s : Store). s.count) a.same;
    })
    (λ (h : HasSaved opened old new before now page). record { going = h.going; id = ap (λ (p : Pass). p.id) h.done.pass; sized = h.done.sized; counted = h.done.counted })

rose_later : (first old new : ℕ) → first ≤ old → Rose old new → Rose first new
rose_later first old new low rose = omega (arith, low, rose)

-- why a page was not saved; nothing but the disk's counts has changed then
pub record IsUnsavedSo (opened : Opened) (old new : Store) (fault : StoreFault) : Type 0 where
  pub why : IsFault opened new (end_fault fault)
  pub events : new.events ≡ old.events
  pub sized : new.page_size ≡ old.page_size
  pub counted : new.count ≡ old.count

pub unsaved_so : (opened : Opened) (old new : Store) (fault : StoreFault) → opened.reads ≤ old.desk.reads → IsUnsaved old new fault → IsUnsavedSo opened old new fault
unsaved_so opened old new store.ReadFault low u = record {
  why = (u.going, rose_later opened.reads old.desk.reads new.desk.reads low u.rose);
  events = ap (λ (s : Store). s.events) u.same;
  sized = ap (λ (s : Store). s.page_size) u.same;
  counted = ap (λ (s : Store). s.count) u.same;
}
unsaved_so opened old new (store.Stopped op) low u = ⊎_elim
    (λ (h : HadStopped old new op). record {
      why = ap (λ (s : Store). s.desk.stopped) h.1 ∙ h.0;
      events = ap (λ (s : Store). s.events) h.1;
      sized = ap (λ (s : Store). s.page_size) h.1;
      counted = ap (λ (s : Store). s.count) h.1;
    })
    (λ (h : HasHalted old new op). record {
      why = h.stopped;
      events = ap (λ (s : Store). s.events) h.same;
      sized = ap (λ (s : Store). s.page_size) h.same;
      counted = ap (λ (s : Store). s.count) h.same;
    })
    u
unsaved_so opened old new (store.PageOut at pages) low u = absurd u
unsaved_so opened old new store.Memory low u = record {
  why = u.going;
  events = ap (λ (s : Store). s.events) u.same;
  sized = ap (λ (s : Store). s.page_size) u.same;
  counted = ap (λ (s : Store). s.count) u.same;
}

pub saves_at : (id : ℕ) (old new : List Event) → new ≡ old → Saves id old new
saves_at id old new same = subst (Saves id old) (sym same) (saves_none id old)

-- one page more is saved, and there is none between
pub saved_more : (next page count : ℕ) (dirty : List (ℕ × List ℕ)) (old new : List Event) (id : ℕ) → AreSaved next count dirty old id → Saves id old new → has_page (journalled_in new) id page ≡ true
    → ((n : ℕ) → next ≤ n → n < page → bytes_at dirty n ≡ None) → AreSaved (page + 1) count dirty new id
saved_more next page count dirty old new id saved saves here none n bytes low within there = ⊎_elim
    (λ (e : n ≡ page). ap (λ (k : ℕ). has_page (journalled_in new) id k) e ∙ here)
    (λ (other : n ≢ page). ⊎_elim
    (λ (below : n < next). saves.kept n (saved n bytes below within there))
    (λ (above : next ≤ n). absurd (let both : None ≡ Some bytes = sym (none n above (omega (arith, low, other))) ∙ there in cc))
    (cases_lt n next))
    (cases_eq n page)

pub saved_all : (next count : ℕ) (dirty : List (ℕ × List ℕ)) (es : List Event) (id : ℕ) → AreSaved next count dirty es id → ((n : ℕ) → next ≤ n → n ≤ count → bytes_at dirty n ≡ None) → AreSaved (count + 1) count dirty es id
saved_all next count dirty es id saved none n bytes low within there = ⊎_elim
    (λ (below : n < next). saved n bytes below within there)
    (λ (above : next ≤ n). absurd (let both : None ≡ Some bytes = sym (none n above within) ∙ there in cc))
    (cases_lt n next)

carries_written : (id page : ℕ) (bytes : List ℕ) (es : List Event) → Carries id es (Written id page bytes ∷ es)
carries_written id page bytes es = record {
  alone = λ alone i other. let a = alone i other in record { closed = a.closed; back = a.back; ended = a.ended; unsaved = a.unsaved; unwritten = λ p. rw (ne_eqb i id other) (a.unwritten p); unseen = a.unseen };
  lives = refl;
  seen = refl;
  entries = refl;
  opens = λ o. o;
  broken = λ b. refl;
}

writes_one : (id page : ℕ) (bytes : List ℕ) (es : List Event) → WritesOne id page bytes es (Written id page bytes ∷ es)
writes_one id page bytes es = record {
  carries = carries_written id page bytes es;
  journalled = refl;
  here = rw (eq-eqb id id refl, eq-eqb page page refl) refl;
  other = λ p other. rw (eq-eqb id id refl, ne_eqb p page other) refl;
}

pub done_writes : (old new : Store) (before now : Pass) (page : ℕ) (bytes : List ℕ) → HasDone old new before now (Written before.id page bytes) → WritesOne before.id page bytes old.events new.events
done_writes old new before now page bytes done = subst (WritesOne before.id page bytes old.events) (sym done.events) (writes_one before.id page bytes old.events)

pub refused_so : (opened : Opened) (old new : Store) (o : Operation) (fault : StoreFault) → OnStop fault (IsRefused old new o) → IsUnsavedSo opened old new fault
refused_so opened old new o store.ReadFault u = absurd u
refused_so opened old new o (store.Stopped op) u = record {
  why = ⊎_elim
      (λ (h : (old.desk.stopped ≡ Some op) × (new.desk ≡ old.desk)). ap (λ (d : Desk). d.stopped) h.1 ∙ h.0)
      (λ (b : Breaks old.desk new.desk o op). b.stopped)
      u.tried;
  events = ap (λ (s : Store). s.events) u.same;
  sized = ap (λ (s : Store). s.page_size) u.same;
  counted = ap (λ (s : Store). s.count) u.same;
}
refused_so opened old new o (store.PageOut at pages) u = absurd u
refused_so opened old new o store.Memory u = absurd u

pub refused_stops : (old new : Store) (o : Operation) (fault : StoreFault) → OnStop fault (IsRefused old new o) → is_some new.desk.stopped ≡ true
refused_stops old new o store.ReadFault u = absurd u
refused_stops old new o (store.Stopped op) u = ⊎_elim
    (λ (h : (old.desk.stopped ≡ Some op) × (new.desk ≡ old.desk)). ap is_some (ap (λ (d : Desk). d.stopped) h.1 ∙ h.0))
    (λ (b : Breaks old.desk new.desk o op). ap is_some b.stopped)
    u.tried
refused_stops old new o (store.PageOut at pages) u = absurd u
refused_stops old new o store.Memory u = absurd u

pub writes_none : (id : ℕ) (es : List Event) → Writes id es es
writes_none id es = record { carries = carries_none id es; journalled = refl }

pub writes_more : (id page : ℕ) (bytes : List ℕ) (a b c : List Event) → Writes id a b → WritesOne id page bytes b c → Writes id a c
writes_more id page bytes a b c first second = record { carries = carries_both id a b c first.carries second.carries; journalled = second.journalled ∙ first.journalled }

-- one page more is written, and there is none between
pub written_more : (next page : ℕ) (bytes : List ℕ) (laid : PageMap) (old new : List Event) (id : ℕ) → IsWrittenTo next laid (written_in old id) → WritesOne id page bytes old new → laid page ≡ Some bytes
    → ((n : ℕ) → next ≤ n → n < page → laid n ≡ None) → next ≤ page → IsWrittenTo (page + 1) laid (written_in new id)
written_more next page bytes laid old new id w one is none low = record {
  done = λ p below. ⊎_elim
      (λ (e : p ≡ page). ap (written_in new id) e ∙ one.here ∙ sym is ∙ sym (ap laid e))
      (λ (other : p ≢ page). one.other p other ∙ ⊎_elim
      (λ (before : p < next). w.done p before)
      (λ (behind : next ≤ p). w.left p behind ∙ sym (none p behind (omega (arith, below, other))))
      (cases_lt p next))
      (cases_eq p page);
  left = λ p above. one.other p (λ e. absurd (omega (arith, e, above))) ∙ w.left p (omega (arith, low, above));
}

pub written_upto : (next last : ℕ) (laid written : PageMap) → IsWrittenTo next laid written → ((n : ℕ) → next ≤ n → n ≤ last → laid n ≡ None) → next ≤ last + 1 → IsWrittenTo (last + 1) laid written
written_upto next last laid written w none within = record {
  done = λ p below. ⊎_elim
      (λ (before : p < next). w.done p before)
      (λ (behind : next ≤ p). w.left p behind ∙ sym (none p behind (omega (arith, below))))
      (cases_lt p next);
  left = λ p above. w.left p (omega (arith, within, above));
}

-- nothing is written yet
pub written_none : (laid written : PageMap) → laid 0 ≡ None → ((p : ℕ) → written p ≡ None) → IsWrittenTo 1 laid written
written_none laid written zero none = record { done = λ p low. let is : p ≡ 0 = omega (arith, low) in none p ∙ sym (ap laid is ∙ zero); left = λ p above. none p }

pub writes_both : (id : ℕ) (a b c : List Event) → Writes id a b → Writes id b c → Writes id a c
writes_both id a b c first second = record { carries = carries_both id a b c first.carries second.carries; journalled = second.journalled ∙ first.journalled }

-- where pages were added, page 1 is saved
pub first_saved : (count pages : ℕ) (dirty : List (ℕ × List ℕ)) (es : List Event) (id : ℕ) → are_numbered count pages dirty ≡ true → 1 ≤ count → AreSaved (count + 1) count dirty es id → count < pages
    → has_page (journalled_in es) id 1 ≡ true
first_saved count pages dirty es id numbered some saved more = by_put (bytes_at dirty 1) refl (first_put count pages dirty numbered more)
  where
    by_put : (o : Option (List ℕ)) → bytes_at dirty 1 ≡ o → is_some (bytes_at dirty 1) ≡ true → has_page (journalled_in es) id 1 ≡ true
    by_put (Some own) there has = saved 1 own (omega (arith, some)) some there
    by_put None none has = absurd (let both : false ≡ true = sym (ap is_some none) ∙ has in cc)

pub carries_opened : (id : ℕ) (es : List Event) → Carries id es (OpenedNow id ∷ es)
carries_opened id es = record {
  alone = λ alone i other. let a = alone i other in record { closed = rw (ne_eqb i id other) a.closed; back = a.back; ended = a.ended; unsaved = a.unsaved; unwritten = a.unwritten; unseen = a.unseen };
  lives = refl;
  seen = refl;
  entries = refl;
  opens = λ o. rw (eq-eqb id id refl) refl;
  broken = λ b. refl;
}

-- it fails later
pub fails_later : (id : ℕ) (old mid new : Store) → Carries id old.events mid.events → mid.page_size ≡ old.page_size → FailsEnd id mid new → FailsEnd id old new
fails_later id old mid new carries sized fails = record { alone = fails.alone; closed = fails.closed; entries = fails.entries ∙ carries.entries; sized = fails.sized ∙ sized }

-- it fails with what it has begun, as the store has stopped
pub fails_stopped : (id : ℕ) (old new : Store) → Carries id old.events new.events → new.page_size ≡ old.page_size → is_some new.desk.stopped ≡ true → IsAlone old.events id → FailsEnd id old new
fails_stopped id old new carries sized stops alone = record {
  alone = carries.alone alone;
  closed = λ going. absurd (let both : false ≡ true = sym (ap is_some going) ∙ stops in cc);
  entries = carries.entries;
  sized = sized;
}

-- the journal was opened, and pages were saved
pub carries_saved : (id other : ℕ) (old mid new : List Event) → mid ≡ OpenedNow id ∷ old → other ≡ id → Saves other mid new → Carries id old new
carries_saved id other old mid new opened same saves =
    let first : Carries id old mid = subst (Carries id old) (sym opened) (carries_opened id old) in
    let second : Saves id mid new = subst (λ (n : ℕ). Saves n mid new) same saves in
    carries_both id old mid new first second.carries
