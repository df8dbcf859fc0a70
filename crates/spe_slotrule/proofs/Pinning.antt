-- The steps of the store's seat on a lock word keep the rule.
use Rattle.std.proofs.Common.{◌≡◌, ℕ, ◌+◌, ◌-◌, ◌<◌, ◌≢◌, ◌⊎◌, true, false, eqb, ◌||◌, ◌&&◌, if◌then◌else◌, List, [], ◌∷◌, map, length, get_or, set, bit_and, sym, refl, ap, ◌∙◌, subst, inl, inr, ⊎_elim, arith, eq-eqb, ne_eqb}
use mathlib.Core.Option.{some, none}
use mathlib.Core.Logic.{dite}
use native.Mathlib.Decide.{ℕ_discrete}
use prog.Atomic.{either}
use lib.ListN.{get_elem?}
use Rattle.std.proofs.lemmas.Bool.{cases_Bool, cases_eq, cond_both, eqb-true, or_cases, or_left, or_right, and_from, and_parts, both_ways}
use Rattle.atomic_table.specs.Table.{step, keeps, stepped, Allows}
use Rattle.spe_slotrule.specs.declared.rule.TheConstants.{FIRST_LOCK}
use Rattle.spe_slotrule.specs.declared.parts.IdPart.{IdPart}
use Rattle.spe_slotrule.specs.declared.parts.Pin.{Pin}
use Rattle.spe_slotrule.specs.declared.parts.StorePart.{StorePart}
use Rattle.spe_slotrule.specs.Word.{has_reader, has_writer, holds_lock, has_read_pin, has_write_pin, writer_field, SameLow, SetsReadPin, SetsWritePin, ClearsPins}
use Rattle.spe_slotrule.specs.Views.{reads_of, writes_of, store_view}
use Rattle.spe_slotrule.specs.Rule.{is_listed, pin_id, pin_lock, is_pinned, is_pinned_word, LocksAreRight, AreRight, Parts, KeepsRule}
use Rattle.spe_slotrule.specs.Pins.{pin_of, without_pin, store_look, pinning_read, pinning_write, unpinning, StoreShows, AreApart, store_looked, store_exchanged, unpinned}
use Rattle.spe_slotrule.proofs.Keeping.{Held, Keeps, Quiet, sits, lock_word, lock_step, still_step}
use Rattle.spe_slotrule.specs.Pairs.{is_pair}
use Rattle.spe_slotrule.specs.May.{Grows, SameOf}
use Rattle.spe_slotrule.specs.Laid.{owned}
use Rattle.spe_slotrule.proofs.Pairs.{left_pair, else_pair, kept_pair, not_there, here_pair, joined_other, joined_else}
use Rattle.spe_slotrule.proofs.Listing.{at_word, each_word, alone_turn}
use Rattle.spe_slotrule.proofs.Fitting.{grows_same, same_of, out_once, id_grows, session_grows, note_grows}
use Rattle.spe_slotrule.proofs.Granting.{pinned_word, lock_number}
use Rattle.spe_slotrule.proofs.PinBits.{same_reader, same_has_writer, same_holds, same_alone}

-- ---- lists of pins

some_pin : (k : ℕ) (pins : List Pin) → is_pinned_word k pins ≡ true → (i : ℕ) × (is_pinned i k pins ≡ true)
some_pin k [] e = absurd (both_ways false refl e)
some_pin k (x ∷ xs) e = ⊎_elim
    (λ (here : eqb k x.lock ≡ true). (x.id, or_left (is_pair pin_id pin_lock x.id k x) (is_pinned x.id k xs) (and_from (eqb x.id x.id) (eqb k x.lock) (eq-eqb x.id x.id refl) here)))
    (λ (later : is_pinned_word k xs ≡ true). let p = some_pin k xs later in (p.0, or_right (is_pair pin_id pin_lock p.0 k x) (is_pinned p.0 k xs) p.1))
    (or_cases (eqb k x.lock) (is_pinned_word k xs) e)

else_word : (i k l : ℕ) (pins : List Pin) → l ≢ k → is_pinned_word l (without_pin i k pins) ≡ is_pinned_word l pins
else_word i k l [] ne = refl
else_word i k l (x ∷ xs) ne = cond_both (is_pair pin_id pin_lock i k x) _ _ (λ m. is_pinned_word l m ≡ is_pinned_word l (x ∷ xs))
    (λ e. else_word i k l xs ne ∙ sym (ap (λ b. b || is_pinned_word l xs) (ne_eqb l x.lock (λ same. ne (same ∙ sym (eqb-true k x.lock (and_parts (eqb i x.id) (eqb k x.lock) e).1))))))
    (λ _. ap (λ b. eqb l x.lock || b) (else_word i k l xs ne))

-- ---- what holds of the pins

module _ {E : Type 0} where
  -- no two ids' pins meet
  pub pins_apart : (locks : List ℕ) (ids : List IdPart) (s : StorePart E) → LocksAreRight locks ids s → AreApart s
  pins_apart locks ids s h i j k wr e =
      let own = h.write_locks i k wr in
      let is_i = eqb-true (writer_field (get_or locks k 0)) (i + 1) own.1 in
      let by_writer : has_writer j (get_or locks k 0) ≡ true → j ≡ i = λ w. let is_j = eqb-true (writer_field (get_or locks k 0)) (j + 1) w in omega (arith, is_i, is_j) in ⊎_elim
      (λ (read : is_pinned j k s.read_pins ≡ true). let l = h.read_locks j k read in ⊎_elim (λ (rd : has_reader j (get_or locks k 0) ≡ true). h.alone k i j l.0 own.1 rd) by_writer (or_cases (has_reader j (get_or locks k 0)) (has_writer j (get_or locks k 0)) l.1))
      (λ (write : is_pinned j k s.write_pins ≡ true). by_writer (h.write_locks j k write).1)
      (or_cases (is_pinned j k s.read_pins) (is_pinned j k s.write_pins) e)

  -- the write pin of a word is the writer's
  own_pin : (locks : List ℕ) (ids : List IdPart) (s : StorePart E) (i k : ℕ) → LocksAreRight locks ids s → (has_write_pin (get_or locks k 0) && has_writer i (get_or locks k 0)) ≡ is_pinned i k s.write_pins
  own_pin locks ids s i k h = ⊎_elim
      (λ (listed : is_pinned i k s.write_pins ≡ true). and_from (has_write_pin (get_or locks k 0)) (has_writer i (get_or locks k 0)) (h.write_pins k ∙ pinned_word i k s.write_pins listed) (h.write_locks i k listed).1 ∙ sym listed)
      (λ (not : is_pinned i k s.write_pins ≡ false). ⊎_elim
      (λ (set : (has_write_pin (get_or locks k 0) && has_writer i (get_or locks k 0)) ≡ true).
      let both = and_parts (has_write_pin (get_or locks k 0)) (has_writer i (get_or locks k 0)) set in
      let other = some_pin k s.write_pins (sym (h.write_pins k) ∙ both.0) in
      let theirs = eqb-true (writer_field (get_or locks k 0)) (other.0 + 1) (h.write_locks other.0 k other.1).1 in
      let mine = eqb-true (writer_field (get_or locks k 0)) (i + 1) both.1 in
      let same : other.0 ≡ i = omega (arith, theirs, mine) in
      absurd (both_ways (is_pinned i k s.write_pins) not (subst (λ (z : ℕ). is_pinned z k s.write_pins ≡ true) same other.1)))
      (λ clear. clear ∙ sym not) (cases_Bool (has_write_pin (get_or locks k 0) && has_writer i (get_or locks k 0))))
      (cases_Bool (is_pinned i k s.write_pins))

  -- What a step must show by which the lock word k, which was `was`, becomes w, and the store's part s becomes t
  pub record Repinned (k was w : ℕ) (s t : StorePart E) : Type 0 where
    pub low : SameLow was w
    pub read : (i : ℕ) → i < 16 → has_read_pin i w ≡ is_pinned i k t.read_pins
    pub write : has_write_pin w ≡ is_pinned_word k t.write_pins
    pub read_else : (i j : ℕ) → j ≢ k → is_pinned i j t.read_pins ≡ is_pinned i j s.read_pins
    pub write_else : (j : ℕ) → j ≢ k → is_pinned_word j t.write_pins ≡ is_pinned_word j s.write_pins
    pub read_locks : (i j : ℕ) → is_pinned i j t.read_pins ≡ true → (is_pinned i j s.read_pins ≡ true) ⊎ ((j ≡ k) × (i < 16) × (holds_lock i was ≡ true))
    pub write_locks : (i j : ℕ) → is_pinned i j t.write_pins ≡ true → (is_pinned i j s.write_pins ≡ true) ⊎ ((j ≡ k) × (i < 16) × (has_writer i was ≡ true))

  repinned : (locks : List ℕ) (ids : List IdPart) (s t : StorePart E) (k w : ℕ) → k < length locks → Repinned k (get_or locks k 0) w s t → LocksAreRight locks ids s → LocksAreRight (set locks k w) ids t
  repinned locks ids s t k w inside p h =
      let was : ℕ = get_or locks k 0 in
      let back : (j : ℕ) → j ≡ k → was ≡ get_or locks j 0 = λ j at. ap (λ (z : ℕ). get_or locks z 0) (sym at) in record {
        readers = λ i j small. at_word (λ z. has_reader i z ≡ is_listed j (get_or (map reads_of ids) i [])) locks k w j inside (λ at. same_reader i was w small p.low ∙ (ap (has_reader i) (back j at) ∙ h.readers i j small)) (h.readers i j small);
        writers = λ i j small. at_word (λ z. has_writer i z ≡ is_listed j (get_or (map writes_of ids) i [])) locks k w j inside (λ at. same_has_writer i was w p.low ∙ (ap (has_writer i) (back j at) ∙ h.writers i j small)) (h.writers i j small);
        alone = alone_turn locks k w inside (same_alone was w p.low (h.alone k)) h.alone;
        read_pins = λ i j small. each_word (λ l z. has_read_pin i z ≡ is_pinned i l t.read_pins) locks k w inside (p.read i small) (λ l ne. h.read_pins i l small ∙ sym (p.read_else i l ne)) j;
        write_pins = each_word (λ l z. has_write_pin z ≡ is_pinned_word l t.write_pins) locks k w inside p.write (λ l ne. h.write_pins l ∙ sym (p.write_else l ne));
        read_locks = λ i. each_word (λ l z. is_pinned i l t.read_pins ≡ true → (i < 16) × (holds_lock i z ≡ true)) locks k w inside
            (λ e. ⊎_elim
            (λ (old : is_pinned i k s.read_pins ≡ true). let l = h.read_locks i k old in (l.0, same_holds i was w l.0 p.low ∙ l.1))
            (λ (new : (k ≡ k) × (i < 16) × (holds_lock i was ≡ true)). (new.1, same_holds i was w new.1 p.low ∙ new.2)) (p.read_locks i k e))
            (λ l ne e. ⊎_elim (λ (old : is_pinned i l s.read_pins ≡ true). h.read_locks i l old) (λ (new : (l ≡ k) × (i < 16) × (holds_lock i was ≡ true)). absurd (ne new.0)) (p.read_locks i l e));
        write_locks = λ i. each_word (λ l z. is_pinned i l t.write_pins ≡ true → (i < 16) × (has_writer i z ≡ true)) locks k w inside
            (λ e. ⊎_elim
            (λ (old : is_pinned i k s.write_pins ≡ true). let l = h.write_locks i k old in (l.0, same_has_writer i was w p.low ∙ l.1))
            (λ (new : (k ≡ k) × (i < 16) × (has_writer i was ≡ true)). (new.1, same_has_writer i was w p.low ∙ new.2)) (p.write_locks i k e))
            (λ l ne e. ⊎_elim (λ (old : is_pinned i l s.write_pins ≡ true). h.write_locks i l old) (λ (new : (l ≡ k) × (i < 16) × (has_writer i was ≡ true)). absurd (ne new.0)) (p.write_locks i l e));
      }

  -- all but the pins and the looks is as it was
  pub record SameStore (s t : StorePart E) : Type 0 where
    pub grows : Grows s t
    pub same : (i : ℕ) → SameOf i s t
    pub records : t.records ≡ s.records
    pub closed : t.closed ≡ s.closed
    pub commits : length t.commits ≡ length s.commits
    pub floor : t.floor ≡ s.floor

  pub same_store : (s t : StorePart E) → t.commits ≡ s.commits → t.faults ≡ s.faults → t.stop ≡ s.stop → t.out ≡ s.out → t.records ≡ s.records → t.closed ≡ s.closed → t.floor ≡ s.floor → SameStore s t
  same_store s t commits faults stop out records closed floor = record { grows = grows_same s t commits faults stop; same = λ i. same_of i s t commits stop out; records = records; closed = closed; commits = ap length commits; floor = floor }

  pub store_quiet : (s t : StorePart E) → SameStore s t → Quiet (store_view s) (store_view t)
  store_quiet s t same = record { steps = record { id = tt; store = refl; session = tt; maker = tt; closed = same.closed }; words = (same.commits, same.floor) }

  -- the lock words and the store's pins change
  pub store_keeps : (s t : StorePart E) (locks : List ℕ) (x : Parts E) → SameStore s t → AreRight (owned (store_view s) x) → LocksAreRight locks x.ids t → Keeps (store_view s) (store_view t) locks x
  store_keeps s t locks x same r are = record {
    right = record {
      locks = are;
      drawn = r.drawn;
      sixteen = ap length same.records ∙ r.sixteen;
      ids = λ i small. id_grows s t i _ same.grows same.records (r.ids i small);
      sessions = λ i. session_grows s t i _ same.grows (same.same i) (r.sessions i);
      out = out_once s t same.same r.out;
      failed = let f = r.failed in let g = same.grows.faults in omega (arith, f, g);
    };
    notes = λ a h. note_grows s t a same.grows h;
    note = tt;
  }

  looking_store : (k expected found : ℕ) (s : StorePart E) → SameStore s (store_look k expected found s)
  looking_store k expected found s = same_store s _ refl refl refl refl refl refl refl

  store_looks_still : (n : ℕ) (st : Held E) (r : KeepsRule n st) (word k expected found me : ℕ) (s : StorePart E) → get_elem? st.views me ≡ some (store_view s) → KeepsRule n (stepped st word (get_or st.words word 0) me [] (store_view (store_look k expected found s)) keeps)
  store_looks_still n st r word k expected found me s at = still_step n st r word me [] (store_view s) (store_view (store_look k expected found s)) at (store_quiet s _ (looking_store k expected found s))
      (λ x is_of h. store_keeps s (store_look k expected found s) x.locks x (looking_store k expected found s) h
      record { readers = h.locks.readers; writers = h.locks.writers; alone = h.locks.alone; read_pins = h.locks.read_pins; write_pins = h.locks.write_pins; read_locks = h.locks.read_locks; write_locks = h.locks.write_locks })

  -- what the lock word k shows the store
  store_shows : (n : ℕ) (st : Held E) (r : KeepsRule n st) (k me : ℕ) (s : StorePart E) → get_elem? st.views me ≡ some (store_view s) → StoreShows s k (get_or st.words (k + FIRST_LOCK) 0)
  store_shows n st r k me s at =
      let t = sits n st r me (store_view s) at in
      let word = lock_word n st r k in record {
        read = λ i small. ap (has_read_pin i) word ∙ t.1.locks.read_pins i k small;
        write = λ i small. ap (λ (z : ℕ). has_write_pin z && has_writer i z) word ∙ own_pin r.parts.locks r.parts.ids s i k t.1.locks;
      }

  store_apart : (n : ℕ) (st : Held E) (r : KeepsRule n st) (me : ℕ) (s : StorePart E) → get_elem? st.views me ≡ some (store_view s) → AreApart s
  store_apart n st r me s at = pins_apart r.parts.locks r.parts.ids s (sits n st r me (store_view s) at).1.locks

  -- a load of the lock word k by the store's seat
  pub store_looks : (n slots id k : ℕ) (s : StorePart E) → Allows (KeepsRule n) slots id (store_view s, []) (k + FIRST_LOCK) (λ w. w) (store_looked (step slots (k + FIRST_LOCK) 0 0 none) (store_view s, []))
  store_looks n slots id k s st r _ at _ =
      let found : ℕ = get_or st.words (k + FIRST_LOCK) 0 in (
        store_view (store_look ((k + FIRST_LOCK) - FIRST_LOCK) found found s),
        keeps,
        tt,
        store_looks_still n st r (k + FIRST_LOCK) ((k + FIRST_LOCK) - FIRST_LOCK) found found id s at,
        (refl, subst (λ (j : ℕ). StoreShows s j found) (lock_number k) (store_shows n st r k id s at), store_apart n st r id s at),
      )

  -- the lock word k becomes w, and the store's part becomes t
  store_turn : (n : ℕ) (st : Held E) (r : KeepsRule n st) (k w me : ℕ) (s t : StorePart E) → k < n → get_elem? st.views me ≡ some (store_view s) → SameStore s t → Repinned k (get_or st.words (k + FIRST_LOCK) 0) w s t
      → KeepsRule n (stepped st (k + FIRST_LOCK) w me [] (store_view t) keeps) × AreApart t
  store_turn n st r k w me s t inside at same p =
      let sit = sits n st r me (store_view s) at in
      let there : k < length r.parts.locks = subst (λ (m : ℕ). k < m) (sym r.count) inside in (
        lock_step n st r k w me [] (store_view s) (store_view t) inside at (store_quiet s t same)
            (λ x has was is_of h. store_keeps s t (set x.locks k w) x same h (repinned x.locks x.ids s t k w has (subst (λ (z : ℕ). Repinned k z w s t) (sym was) p) h.locks)),
        pins_apart (set r.parts.locks k w) r.parts.ids t (repinned r.parts.locks r.parts.ids s t k w there (subst (λ (z : ℕ). Repinned k z w s t) (lock_word n st r k) p) sit.1.locks),
      )

  -- an exchange of the lock word k by the store's seat
  store_exchange : (n slots id k old new : ℕ) (s : StorePart E) (change : ℕ → StorePart E → StorePart E) → k < n → SameStore s (change ((k + FIRST_LOCK) - FIRST_LOCK) s) → (StoreShows s k old → (locks : List ℕ) (ids : List IdPart) → get_or locks k 0 ≡ old → LocksAreRight locks ids s → Repinned k old new s (change ((k + FIRST_LOCK) - FIRST_LOCK) s))
      → Allows (KeepsRule n) slots id (store_view s, []) (k + FIRST_LOCK) (λ x. either (eqb x old) new x) (store_exchanged change (step slots (k + FIRST_LOCK) old new none) (store_view s, []))
  store_exchange n slots id k old new s change inside same turned st r _ at _ =
      let x : ℕ = get_or st.words (k + FIRST_LOCK) 0 in
      let t = change ((k + FIRST_LOCK) - FIRST_LOCK) s in
      let t' = store_look ((k + FIRST_LOCK) - FIRST_LOCK) old x s in
      dite (ℕ_discrete x old)
      (λ hit.
      let word = sym (lock_word n st r k) ∙ hit in
      let p : Repinned k x new s t = subst (λ (z : ℕ). Repinned k z new s t) (sym hit) (turned (subst (StoreShows s k) hit (store_shows n st r k id s at)) r.parts.locks r.parts.ids word (sits n st r id (store_view s) at).1.locks) in
      let done = store_turn n st r k new id s t inside at same p in (
        store_view t,
        keeps,
        tt,
        subst (λ b. KeepsRule n (stepped st (k + FIRST_LOCK) (either b new x) id [] (store_view t) keeps)) (sym (eq-eqb x old hit)) done.0,
        ((λ _. refl), (λ not. absurd (not hit)), done.1),
      ))
      (λ miss. (
        store_view t',
        keeps,
        tt,
        subst (λ b. KeepsRule n (stepped st (k + FIRST_LOCK) (either b new x) id [] (store_view t') keeps)) (sym (ne_eqb x old miss)) (store_looks_still n st r (k + FIRST_LOCK) ((k + FIRST_LOCK) - FIRST_LOCK) old x id s at),
        ((λ hit. absurd (miss hit)), (λ _. refl), store_apart n st r id s at),
      ))

  pub pins_read : (n slots id i k old new : ℕ) (s : StorePart E) → k < n → i < 16 → holds_lock i old ≡ true → SetsReadPin i old new
      → Allows (KeepsRule n) slots id (store_view s, []) (k + FIRST_LOCK) (λ x. either (eqb x old) new x) (store_exchanged (pinning_read i) (step slots (k + FIRST_LOCK) old new none) (store_view s, []))
  pins_read n slots id i k old new s inside small held sets = store_exchange n slots id k old new s (pinning_read i) inside (same_store s _ refl refl refl refl refl refl refl)
      (λ shown locks ids word h. subst (λ (l : ℕ). Repinned k old new s (pinning_read i l s)) (lock_number k) record {
        low = sets.low;
        read = λ j hj. ⊎_elim
            (λ (own : j ≡ i). subst (λ (z : ℕ). has_read_pin z new ≡ is_pinned z k (pin_of i k ∷ s.read_pins)) (sym own) (sets.pin ∙ sym (here_pair pin_id pin_lock i k (pin_of i k) s.read_pins refl refl)))
            (λ (ne : j ≢ i). sets.others j hj ne ∙ (shown.read j hj ∙ sym (joined_other pin_id pin_lock j k (pin_of i k) s.read_pins ne))) (cases_eq j i);
        write = sets.write ∙ (ap has_write_pin (sym word) ∙ h.write_pins k);
        read_else = λ a j ne. joined_else pin_id pin_lock a j (pin_of i k) s.read_pins ne;
        write_else = λ j ne. refl;
        read_locks = λ a j e. ⊎_elim
            (λ (new : is_pair pin_id pin_lock a j (pin_of i k) ≡ true). let b = and_parts (eqb a i) (eqb j k) new in let own = eqb-true a i b.0 in
            inr (eqb-true j k b.1, subst (λ (z : ℕ). z < 16) (sym own) small, subst (λ (z : ℕ). holds_lock z old ≡ true) (sym own) held))
            (λ (before : is_pinned a j s.read_pins ≡ true). inl before) (or_cases (is_pair pin_id pin_lock a j (pin_of i k)) (is_pinned a j s.read_pins) e);
        write_locks = λ a j e. inl e;
      })

  pub pins_write : (n slots id i k old new : ℕ) (s : StorePart E) → k < n → i < 16 → has_writer i old ≡ true → SetsWritePin old new
      → Allows (KeepsRule n) slots id (store_view s, []) (k + FIRST_LOCK) (λ x. either (eqb x old) new x) (store_exchanged (pinning_write i) (step slots (k + FIRST_LOCK) old new none) (store_view s, []))
  pins_write n slots id i k old new s inside small held sets = store_exchange n slots id k old new s (pinning_write i) inside (same_store s _ refl refl refl refl refl refl refl)
      (λ shown locks ids word h. subst (λ (l : ℕ). Repinned k old new s (pinning_write i l s)) (lock_number k) record {
        low = sets.low;
        read = λ j hj. sets.read j hj ∙ shown.read j hj;
        write = sets.pin ∙ sym (or_left (eqb k k) (is_pinned_word k s.write_pins) (eq-eqb k k refl));
        read_else = λ a j ne. refl;
        write_else = λ j ne. ap (λ b. b || is_pinned_word j s.write_pins) (ne_eqb j k ne);
        read_locks = λ a j e. inl e;
        write_locks = λ a j e. ⊎_elim
            (λ (new : is_pair pin_id pin_lock a j (pin_of i k) ≡ true). let b = and_parts (eqb a i) (eqb j k) new in let own = eqb-true a i b.0 in
            inr (eqb-true j k b.1, subst (λ (z : ℕ). z < 16) (sym own) small, subst (λ (z : ℕ). has_writer z old ≡ true) (sym own) held))
            (λ (before : is_pinned a j s.write_pins ≡ true). inl before) (or_cases (is_pair pin_id pin_lock a j (pin_of i k)) (is_pinned a j s.write_pins) e);
      })

  -- where the id has the write pin of a word, no pin is left there, and else none goes
  write_left : (locks : List ℕ) (ids : List IdPart) (s : StorePart E) (i k : ℕ) → LocksAreRight locks ids s → (if is_pinned i k s.write_pins then false else is_pinned_word k s.write_pins) ≡ is_pinned_word k (without_pin i k s.write_pins)
  write_left locks ids s i k h = ⊎_elim
      (λ (listed : is_pinned i k s.write_pins ≡ true). ap (λ b. if b then false else is_pinned_word k s.write_pins) listed ∙ ⊎_elim
      (λ (some_one : is_pinned_word k (without_pin i k s.write_pins) ≡ true).
      let left = some_pin k (without_pin i k s.write_pins) some_one in
      let own = pins_apart locks ids s h i left.0 k listed (or_right (is_pinned left.0 k s.read_pins) (is_pinned left.0 k s.write_pins) (kept_pair pin_id pin_lock i k left.0 k s.write_pins left.1)) in
      absurd (both_ways (is_pinned i k (without_pin i k s.write_pins)) (left_pair pin_id pin_lock i k s.write_pins) (subst (λ (z : ℕ). is_pinned z k (without_pin i k s.write_pins) ≡ true) own left.1)))
      (λ nobody_left. sym nobody_left) (cases_Bool (is_pinned_word k (without_pin i k s.write_pins))))
      (λ (not : is_pinned i k s.write_pins ≡ false). ap (λ b. if b then false else is_pinned_word k s.write_pins) not ∙ ap (is_pinned_word k) (sym (not_there pin_id pin_lock i k s.write_pins not)))
      (cases_Bool (is_pinned i k s.write_pins))

  -- the step that clears the pins of the id, whatever the word was; the mask is for the pins that the store lists
  pub unpins : (n slots id i k mask : ℕ) (s : StorePart E) → k < n → i < 16 → ((word : ℕ) → ClearsPins i (is_pinned i k s.write_pins) word (bit_and word mask))
      → Allows (KeepsRule n) slots id (store_view s, []) (k + FIRST_LOCK) (λ x. bit_and x mask) (unpinned i (step slots (k + FIRST_LOCK) mask 0 none) (store_view s, []))
  unpins n slots id i k mask s inside small clears st r _ at _ =
      let x : ℕ = get_or st.words (k + FIRST_LOCK) 0 in
      let t = unpinning i ((k + FIRST_LOCK) - FIRST_LOCK) s in
      let c = clears x in
      let h = (sits n st r id (store_view s) at).1.locks in
      let shown = store_shows n st r k id s at in
      let word = lock_word n st r k in
      let p : Repinned k x (bit_and x mask) s (unpinning i k s) = record {
        low = c.low;
        read = λ j hj. ⊎_elim
            (λ (own : j ≡ i). subst (λ (z : ℕ). has_read_pin z (bit_and x mask) ≡ is_pinned z k (without_pin i k s.read_pins)) (sym own) (c.pin ∙ sym (left_pair pin_id pin_lock i k s.read_pins)))
            (λ (ne : j ≢ i). c.others j hj ne ∙ (shown.read j hj ∙ sym (else_pair pin_id pin_lock i k j k s.read_pins (λ e. ne (sym e.0))))) (cases_eq j i);
        write = c.write ∙ (ap (λ b. if is_pinned i k s.write_pins then false else b) (ap has_write_pin word ∙ h.write_pins k) ∙ write_left r.parts.locks r.parts.ids s i k h);
        read_else = λ a j ne. else_pair pin_id pin_lock i k a j s.read_pins (λ e. ne (sym e.1));
        write_else = λ j ne. else_word i k j s.write_pins ne;
        read_locks = λ a j e. inl (kept_pair pin_id pin_lock i k a j s.read_pins e);
        write_locks = λ a j e. inl (kept_pair pin_id pin_lock i k a j s.write_pins e);
      } in
      let done = store_turn n st r k (bit_and x mask) id s t inside at (same_store s _ refl refl refl refl refl refl refl) (subst (λ (l : ℕ). Repinned k x (bit_and x mask) s (unpinning i l s)) (lock_number k) p) in (
        store_view t,
        keeps,
        tt,
        done.0,
        (refl, done.1),
      )
