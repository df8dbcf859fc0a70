-- The exchanges that grant a read, grant a write and give locks up keep the rule.
use Rattle.std.proofs.Common.{◌≡◌, ℕ, ◌+◌, ◌-◌, ◌<◌, ◌≢◌, true, false, eqb, ◌||◌, ◌&&◌, List, [], ◌∷◌, map, length, get_or, set, sym, refl, ap, ◌∙◌, subst, ⊎_elim, arith, eq-eqb, ne_eqb}
use mathlib.Core.Option.{some, none}
use mathlib.Core.Logic.{dite}
use native.Mathlib.Decide.{ℕ_discrete}
use prog.Atomic.{either}
use lib.ListN.{get_elem?}
use Rattle.std.proofs.lemmas.List.{length-map, map-set}
use Rattle.std.proofs.lemmas.Bool.{cases_Bool, cases_eq, eqb-true, or_cases, or_left, or_right, and_from, and_parts, both_ways}
use Rattle.atomic_table.specs.Table.{step, keeps, stepped, Allows}
use Rattle.spe_slotrule.specs.declared.rule.TheConstants.{FIRST_LOCK}
use Rattle.spe_slotrule.specs.declared.parts.IdPart.{IdPart}
use Rattle.spe_slotrule.specs.declared.parts.StorePart.{StorePart}
use Rattle.spe_slotrule.specs.Word.{has_reader, has_writer, holds_lock, has_read_pin, has_write_pin, has_pin, writer_field, is_read_free, is_write_free, IsAlone, AddsReader, SetsWriter, ClearsLocks, SameAbove}
use Rattle.spe_slotrule.specs.Views.{reads_of, writes_of, id_view}
use Rattle.spe_slotrule.specs.Rule.{is_listed, is_pinned, is_pinned_word, AreListed, LocksAreRight, KeepsRule}
use Rattle.spe_slotrule.specs.Locks.{after_look, reading, writing, releasing, exchanged, Shows}
use Rattle.spe_slotrule.proofs.Lists.{at_below}
use Rattle.spe_slotrule.proofs.Alone.{reader_alone, writer_alone, released_alone}
use Rattle.spe_slotrule.proofs.Keeping.{Held, map_at, lock_step}
use Rattle.spe_slotrule.proofs.Listing.{Turns, listed_turn, alone_turn, at_word, joined_here, joined_else, left_here, left_else}
use Rattle.spe_slotrule.proofs.Looking.{SameKnown, looking_same, id_quiet, id_keeps, id_look, shows}

-- pins keep their locks where a word becomes another
pub record KeepsPins (was w : ℕ) : Type 0 where
  pub read : (i : ℕ) → i < 16 → has_read_pin i was ≡ true → holds_lock i was ≡ true → holds_lock i w ≡ true
  pub write : (i : ℕ) → i < 16 → has_write_pin was ≡ true → has_writer i was ≡ true → has_writer i w ≡ true

-- What a step must show where the lock word k was `was` and becomes w, and the part p of an id becomes q
pub record Turned (k was w : ℕ) (p q : IdPart) : Type 0 where
  pub reads : Turns has_reader p.id k was w p.reads q.reads
  pub writes : Turns has_writer p.id k was w p.writes q.writes
  pub alone : IsAlone was → IsAlone w
  pub above : SameAbove was w
  pub pins : KeepsPins was w

-- the number of a lock word, from the number of the word
pub lock_number : (k : ℕ) → k ≡ (k + FIRST_LOCK) - FIRST_LOCK
lock_number k = omega arith

-- the pins of a word stand in the bits above its locks
pub same_read_pin : (i was w : ℕ) → i < 16 → SameAbove was w → has_read_pin i w ≡ has_read_pin i was
same_read_pin i was w small above = ap (λ (b : ℕ). eqb b 1) (above (32 + i) (omega arith) (omega arith))

pub same_write_pin : (was w : ℕ) → SameAbove was w → has_write_pin w ≡ has_write_pin was
same_write_pin was w above = ap (λ (b : ℕ). eqb b 1) (above 48 (omega arith) (omega arith))

-- some id has a pin where one is listed
pub pinned_word : (i k : ℕ) (pins : List _) → is_pinned i k pins ≡ true → is_pinned_word k pins ≡ true
pinned_word i k [] e = e
pinned_word i k (x ∷ xs) e = ⊎_elim
    (λ (here : (eqb i x.id && eqb k x.lock) ≡ true). or_left (eqb k x.lock) (is_pinned_word k xs) (and_parts (eqb i x.id) (eqb k x.lock) here).1)
    (λ (later : is_pinned i k xs ≡ true). or_right (eqb k x.lock) (is_pinned_word k xs) (pinned_word i k xs later))
    (or_cases (eqb i x.id && eqb k x.lock) (is_pinned i k xs) e)

module _ {E : Type 0} where
  locks_turn : (locks : List ℕ) (ids : List IdPart) (s : StorePart E) (k w : ℕ) (p q : IdPart) → k < length locks → get_elem? ids p.id ≡ some p → Turned k (get_or locks k 0) w p q → LocksAreRight locks ids s → LocksAreRight (set locks k w) (set ids p.id q) s
  locks_turn locks ids s k w p q inside own t h =
      let was : ℕ = get_or locks k 0 in
      let known : p.id < length ids = at_below ids p.id p own in record {
        readers = subst (AreListed has_reader (set locks k w)) (sym (map-set reads_of ids p.id q))
            (listed_turn has_reader locks (map reads_of ids) p.id k w q.reads inside (subst (λ (m : ℕ). p.id < m) (sym (length-map ids reads_of)) known)
            (subst (λ (l : List ℕ). Turns has_reader p.id k was w l q.reads) (sym (map_at reads_of ids p.id p [] own)) t.reads) h.readers);
        writers = subst (AreListed has_writer (set locks k w)) (sym (map-set writes_of ids p.id q))
            (listed_turn has_writer locks (map writes_of ids) p.id k w q.writes inside (subst (λ (m : ℕ). p.id < m) (sym (length-map ids writes_of)) known)
            (subst (λ (l : List ℕ). Turns has_writer p.id k was w l q.writes) (sym (map_at writes_of ids p.id p [] own)) t.writes) h.writers);
        alone = alone_turn locks k w inside (t.alone (h.alone k)) h.alone;
        read_pins = λ i j small. at_word (λ z. has_read_pin i z ≡ is_pinned i j s.read_pins) locks k w j inside
            (λ at. same_read_pin i was w small t.above ∙ (ap (λ (z : ℕ). has_read_pin i (get_or locks z 0)) (sym at) ∙ h.read_pins i j small)) (h.read_pins i j small);
        write_pins = λ j. at_word (λ z. has_write_pin z ≡ is_pinned_word j s.write_pins) locks k w j inside
            (λ at. same_write_pin was w t.above ∙ (ap (λ (z : ℕ). has_write_pin (get_or locks z 0)) (sym at) ∙ h.write_pins j)) (h.write_pins j);
        read_locks = λ i j e. let l = h.read_locks i j e in (
          l.0,
          at_word (λ z. holds_lock i z ≡ true) locks k w j inside
              (λ at. t.pins.read i l.0 (ap (λ (z : ℕ). has_read_pin i (get_or locks z 0)) (sym at) ∙ (h.read_pins i j l.0 ∙ e)) (ap (λ (z : ℕ). holds_lock i (get_or locks z 0)) (sym at) ∙ l.1)) l.1,
        );
        write_locks = λ i j e. let l = h.write_locks i j e in (
          l.0,
          at_word (λ z. has_writer i z ≡ true) locks k w j inside
              (λ at. t.pins.write i l.0 (ap (λ (z : ℕ). has_write_pin (get_or locks z 0)) (sym at) ∙ (h.write_pins j ∙ pinned_word i j s.write_pins e)) (ap (λ (z : ℕ). has_writer i (get_or locks z 0)) (sym at) ∙ l.1)) l.1,
        );
      }

  -- the lock word k becomes w, and the id's part becomes q
  pub id_turn : (n : ℕ) (s : Held E) (r : KeepsRule n s) (k w me : ℕ) (p q : IdPart) → k < n → get_elem? s.views me ≡ some (id_view p) → SameKnown p q
      → Turned k (get_or s.words (k + FIRST_LOCK) 0) w p q → KeepsRule n (stepped s (k + FIRST_LOCK) w me [] (id_view q) keeps)
  id_turn n s r k w me p q inside at same turned =
      lock_step n s r k w me [] (id_view p) (id_view q) inside at (id_quiet p q same)
      (λ x there was is_of h. id_keeps p q (set x.locks k w) x same is_of.id h (locks_turn x.locks x.ids x.store k w p q there is_of.id (subst (λ (z : ℕ). Turned k z w p q) (sym was) turned) h.locks))

  -- an exchange of the lock word k: where it hits, the id's part becomes q, and else it is a look
  id_exchange : (n slots id k old new : ℕ) (p : IdPart) (change : ℕ → IdPart → IdPart) → k < n → p.id < 16 → SameKnown p (change ((k + FIRST_LOCK) - FIRST_LOCK) p) → (Shows p k old → Turned k old new p (change ((k + FIRST_LOCK) - FIRST_LOCK) p))
      → Allows (KeepsRule n) slots id (id_view {E = E} p, []) (k + FIRST_LOCK) (λ x. either (eqb x old) new x) (exchanged change (step slots (k + FIRST_LOCK) old new none) (id_view p, []))
  id_exchange n slots id k old new p change inside small same turned s r _ at _ =
      let x : ℕ = get_or s.words (k + FIRST_LOCK) 0 in
      let q = change ((k + FIRST_LOCK) - FIRST_LOCK) p in
      let q' = after_look 0 ((k + FIRST_LOCK) - FIRST_LOCK) old x p in
      let seen : Shows p k x = shows n s r k id p small at in
      let sees : Shows p ((k + FIRST_LOCK) - FIRST_LOCK) x = subst (λ (j : ℕ). Shows p j x) (lock_number k) seen in
      dite (ℕ_discrete x old)
      (λ hit. (
        id_view q,
        keeps,
        tt,
        subst (λ b. KeepsRule n (stepped s (k + FIRST_LOCK) (either b new x) id [] (id_view q) keeps)) (sym (eq-eqb x old hit))
            (id_turn n s r k new id p q inside at same (subst (λ (z : ℕ). Turned k z new p q) (sym hit) (turned (subst (Shows p k) hit seen)))),
        ((λ _. refl), (λ not. absurd (not hit)), sees),
      ))
      (λ miss. (
        id_view q',
        keeps,
        tt,
        subst (λ b. KeepsRule n (stepped s (k + FIRST_LOCK) (either b new x) id [] (id_view q') keeps)) (sym (ne_eqb x old miss)) (id_look n s r (k + FIRST_LOCK) id [] p q' at (looking_same _ _ _ _ p)),
        ((λ hit. absurd (miss hit)), (λ _. refl), sees),
      ))

same_test : (v w i : ℕ) → writer_field v ≡ writer_field w → has_writer i v ≡ has_writer i w
same_test v w i = ap (λ (z : ℕ). eqb z (i + 1))

nobody_writes : (i old : ℕ) → writer_field old ≡ 0 → has_writer i old ≡ false
nobody_writes i old none_yet = ap (λ (z : ℕ). eqb z (i + 1)) none_yet ∙ ne_eqb 0 (i + 1) (λ e. omega arith)

-- who has a lock keeps it beside a new reader
reader_holds : (id i old new : ℕ) → i < 16 → AddsReader id old new → holds_lock i old ≡ true → holds_lock i new ≡ true
reader_holds id i old new small adds held = ⊎_elim
    (λ (reads : has_reader i old ≡ true). or_left (has_reader i new) (has_writer i new)
    (⊎_elim (λ (own : i ≡ id). ap (λ (z : ℕ). has_reader z new) own ∙ adds.reader) (λ (ne : i ≢ id). adds.others i small ne ∙ reads) (cases_eq i id)))
    (λ (writes : has_writer i old ≡ true). or_right (has_reader i new) (has_writer i new) (same_test new old i adds.writer ∙ writes))
    (or_cases (has_reader i old) (has_writer i old) held)

-- and beside a new writer
writer_holds : (id i old new : ℕ) → i < 16 → writer_field old ≡ 0 → SetsWriter id old new → holds_lock i old ≡ true → holds_lock i new ≡ true
writer_holds id i old new small none_yet sets held = ⊎_elim
    (λ (reads : has_reader i old ≡ true). or_left (has_reader i new) (has_writer i new) (sets.readers i small ∙ reads))
    (λ (writes : has_writer i old ≡ true). absurd (both_ways (has_writer i old) (nobody_writes i old none_yet) writes))
    (or_cases (has_reader i old) (has_writer i old) held)

pub reading_turns : (k old new : ℕ) (p : IdPart) → AddsReader p.id old new → is_read_free p.id old ≡ true → has_writer p.id old ≡ is_listed k p.writes → Turned k old new p (reading k p)
reading_turns k old new p adds free written = record {
  reads = record { here = adds.reader ∙ sym (joined_here k p.reads); others = adds.others; elsewhere = λ j ne. joined_else k j p.reads ne };
  writes = record { here = same_test new old p.id adds.writer ∙ written; others = λ j _ _. same_test new old j adds.writer; elsewhere = λ j _. refl };
  alone = reader_alone p.id old new adds free;
  above = adds.above;
  pins = record { read = λ i small _ held. reader_holds p.id i old new small adds held; write = λ i _ _ writes. same_test new old i adds.writer ∙ writes };
}

pub writing_turns : (k old new : ℕ) (p : IdPart) → p.id < 16 → writer_field old ≡ 0 → SetsWriter p.id old new → is_write_free p.id old ≡ true → has_reader p.id old ≡ is_listed k p.reads → Turned k old new p (writing k p)
writing_turns k old new p small none_yet sets free read = record {
  reads = record { here = sets.readers p.id small ∙ read; others = λ j hj _. sets.readers j hj; elsewhere = λ j _. refl };
  writes = record {
    here = ap (λ (z : ℕ). eqb z (p.id + 1)) sets.writer ∙ (eq-eqb (p.id + 1) (p.id + 1) refl ∙ sym (joined_here k p.writes));
    others = λ j _ ne. ap (λ (z : ℕ). eqb z (j + 1)) sets.writer ∙ (ne_eqb (p.id + 1) (j + 1) (λ e. ne (omega arith)) ∙ sym (ap (λ (z : ℕ). eqb z (j + 1)) none_yet ∙ ne_eqb 0 (j + 1) (λ e. omega arith)));
    elsewhere = λ j ne. joined_else k j p.writes ne;
  };
  alone = λ _. writer_alone p.id old new sets free;
  above = sets.above;
  pins = record { read = λ i hi _ held. writer_holds p.id i old new hi none_yet sets held; write = λ i _ _ writes. absurd (both_ways (has_writer i old) (nobody_writes i old none_yet) writes) };
}

released_own : (id old new : ℕ) → ClearsLocks id old new → has_writer id new ≡ false
released_own id old new clears = ⊎_elim
    (λ (own : has_writer id old ≡ true). ap (λ (z : ℕ). eqb z (id + 1)) (clears.own_writer own) ∙ ne_eqb 0 (id + 1) (λ e. omega arith))
    (λ (other : has_writer id old ≡ false). same_test new old id (clears.other_writer other) ∙ other)
    (cases_Bool (has_writer id old))

released_else : (id old new j : ℕ) → j ≢ id → ClearsLocks id old new → has_writer j new ≡ has_writer j old
released_else id old new j ne clears = ⊎_elim
    (λ (own : has_writer id old ≡ true). let is = eqb-true (writer_field old) (id + 1) own in
    ap (λ (z : ℕ). eqb z (j + 1)) (clears.own_writer own) ∙ (ne_eqb 0 (j + 1) (λ e. omega arith) ∙ sym (ne_eqb (writer_field old) (j + 1) (λ e. ne (omega (arith, is, e))))))
    (λ (other : has_writer id old ≡ false). same_test new old j (clears.other_writer other))
    (cases_Bool (has_writer id old))

-- who has a pin has another id than the one that gives its locks up, and keeps its own
released_pins : (id old new : ℕ) → has_pin id old ≡ false → ClearsLocks id old new → KeepsPins old new
released_pins id old new free clears = record {
  read = λ i small pinned held. let ne : i ≢ id = λ own. both_ways (has_pin id old) free (or_left (has_read_pin id old) (has_write_pin old && has_writer id old) (subst (λ (z : ℕ). has_read_pin z old ≡ true) own pinned)) in
      subst (λ b. b ≡ true) (sym (ap (λ b. b || has_writer i new) (clears.others i small ne) ∙ ap (λ b. has_reader i old || b) (released_else id old new i ne clears))) held;
  write = λ i small pinned writes. let ne : i ≢ id = λ own. both_ways (has_pin id old) free
      (or_right (has_read_pin id old) (has_write_pin old && has_writer id old) (and_from (has_write_pin old) (has_writer id old) pinned (subst (λ (z : ℕ). has_writer z old ≡ true) own writes))) in
      released_else id old new i ne clears ∙ writes;
}

pub releasing_turns : (k old new : ℕ) (p : IdPart) → has_pin p.id old ≡ false → ClearsLocks p.id old new → Turned k old new p (releasing k p)
releasing_turns k old new p free clears = record {
  reads = record { here = clears.reader ∙ sym (left_here k p.reads); others = clears.others; elsewhere = λ j ne. left_else k j p.reads ne };
  writes = record { here = released_own p.id old new clears ∙ sym (left_here k p.writes); others = λ j _ ne. released_else p.id old new j ne clears; elsewhere = λ j ne. left_else k j p.writes ne };
  alone = released_alone p.id old new clears;
  above = clears.above;
  pins = released_pins p.id old new free clears;
}

locks_alone : (p q : IdPart) → q.id ≡ p.id → q.pages ≡ p.pages → q.faults ≡ p.faults → q.stop ≡ p.stop → q.failed_reads ≡ p.failed_reads → SameKnown p q
locks_alone p q a b c d e = record { id = a; pages = b; faults = c; stop = d; failed = e }

module _ {E : Type 0} where
  pub grants_read : (n slots id k old new : ℕ) (p : IdPart) → k < n → p.id < 16 → AddsReader p.id old new → is_read_free p.id old ≡ true
      → Allows (KeepsRule n) slots id (id_view {E = E} p, []) (k + FIRST_LOCK) (λ x. either (eqb x old) new x) (exchanged reading (step slots (k + FIRST_LOCK) old new none) (id_view p, []))
  grants_read n slots id k old new p inside small adds free = id_exchange n slots id k old new p reading inside small (locks_alone _ _ refl refl refl refl refl)
      (λ shown. subst (λ (z : ℕ). Turned k old new p (reading z p)) (lock_number k) (reading_turns k old new p adds free shown.written))

  pub grants_write : (n slots id k old new : ℕ) (p : IdPart) → k < n → p.id < 16 → writer_field old ≡ 0 → SetsWriter p.id old new → is_write_free p.id old ≡ true
      → Allows (KeepsRule n) slots id (id_view {E = E} p, []) (k + FIRST_LOCK) (λ x. either (eqb x old) new x) (exchanged writing (step slots (k + FIRST_LOCK) old new none) (id_view p, []))
  grants_write n slots id k old new p inside small none_yet sets free = id_exchange n slots id k old new p writing inside small (locks_alone _ _ refl refl refl refl refl)
      (λ shown. subst (λ (z : ℕ). Turned k old new p (writing z p)) (lock_number k) (writing_turns k old new p small none_yet sets free shown.read))

  pub releases : (n slots id k old new : ℕ) (p : IdPart) → k < n → p.id < 16 → has_pin p.id old ≡ false → ClearsLocks p.id old new
      → Allows (KeepsRule n) slots id (id_view {E = E} p, []) (k + FIRST_LOCK) (λ x. either (eqb x old) new x) (exchanged releasing (step slots (k + FIRST_LOCK) old new none) (id_view p, []))
  releases n slots id k old new p inside small free clears = id_exchange n slots id k old new p releasing inside small (locks_alone _ _ refl refl refl refl refl)
      (λ shown. subst (λ (z : ℕ). Turned k old new p (releasing z p)) (lock_number k) (releasing_turns k old new p free clears))
