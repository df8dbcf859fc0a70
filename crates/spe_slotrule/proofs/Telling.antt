-- What the store tells ids and sessions keeps the rule.
use Rattle.std.proofs.Common.{◌≡◌, ℕ, ◌<◌, ◌≤◌, ◌≢◌, Bool, true, false, eqb, ◌||◌, ◌&&◌, if◌then◌else◌, List, [], ◌∷◌, length, get_or, set, sym, refl, ap, ◌∙◌, subst, ⊎_elim, arith, length-set, get_or-set_same, get_or-set_other, Option, Some, None, eq-eqb, ne_eqb}
use mathlib.Core.Option.{none}
use Rattle.std.proofs.lemmas.Bool.{cases_eq, eqb-true, or_cases, or_left, or_right, and_parts, both_ways}
use Rattle.atomic_table.specs.Table.{step, keeps, Allows}
use Rattle.spe_slotrule.specs.declared.parts.IdOut.{IdOut}
use Rattle.spe_slotrule.specs.declared.parts.IdPart.{IdPart}
use Rattle.spe_slotrule.specs.declared.parts.PassRecord.{PassRecord}
use Rattle.spe_slotrule.specs.declared.parts.SessionPart.{SessionPart}
use Rattle.spe_slotrule.specs.declared.parts.StoppedCommit.{StoppedCommit}
use Rattle.spe_slotrule.specs.declared.parts.StorePart.{StorePart}
use Rattle.spe_slotrule.specs.declared.parts.StoreStop.{StoreStop}
use Rattle.spe_slotrule.specs.declared.parts.View.{View}
use Rattle.spe_slotrule.specs.Views.{no_record, store_view}
use Rattle.spe_slotrule.specs.Known.{out_id, out_session, op_of, stopped_of, is_given_out, is_out, IdsAreOutOnce, has_out, IsStop, id_failed, session_failed}
use Rattle.spe_slotrule.specs.Rule.{ReadPinsAreListed, WritePinsAreListed, ReadPinsHaveLocks, WritePinsHaveLocks, LocksAreRight, AreRight, Parts, KeepsRule}
use Rattle.spe_slotrule.specs.May.{Grows, SameOf, SessionTold, IdTold, IsStill}
use Rattle.spe_slotrule.specs.Tells.{counted, without_out, with_pages, store_session, store_id, id_session, told, with_faults, told_all, told_faults, recording, giving_out, taking_home, with_out, stopping, stopped_at, with_looks_of, without_looks}
use Rattle.spe_slotrule.specs.Pairs.{is_pair}
use Rattle.spe_slotrule.proofs.Pairs.{left_pair, else_pair, kept_pair, joined_else}
use Rattle.spe_slotrule.proofs.Keeping.{Quiet, Shown, sits, still_step, own_parts}
use Rattle.spe_slotrule.proofs.Fitting.{prefix_all, grows_same, same_of, out_once, id_grows, session_grows, note_grows, ids_put, sessions_put, sum_put}
use Rattle.spe_slotrule.proofs.Looking.{same_locks}
use Rattle.spe_slotrule.proofs.Pinning.{SameStore, store_quiet, store_keeps}

-- an id goes out with a session, where none was out
own_out : (id session i : ℕ) (out : List IdOut) → is_out i session out ≡ false → is_out i session (record { id = id; session = session } ∷ out) ≡ eqb i id
own_out id session i out none_yet = (λ j. eqb i id && eq-eqb session session refl j || none_yet j) ∙ plain (eqb i id)
  where
    plain : (b : Bool) → (b && true || false) ≡ b
    plain true = refl
    plain false = refl

-- the id that was out comes home
came_home : (id session i : ℕ) (out : List IdOut) → is_out i session out ≡ eqb i id → is_out i session (without_out id session out) ≡ false
came_home id session i out was = ⊎_elim
    (λ (own : i ≡ id). subst (λ (z : ℕ). is_out z session (without_out id session out) ≡ false) (sym own) (left_pair out_id out_session id session out))
    (λ (ne : i ≢ id). else_pair out_id out_session id session i session out (λ e. ne (sym e.0)) ∙ (was ∙ ne_eqb i id ne)) (cases_eq i id)

-- who has an id out is one of those who have
given : (id i : ℕ) (out : List IdOut) → is_out id i out ≡ true → is_given_out id out ≡ true
given id i [] e = e
given id i (x ∷ xs) e = ⊎_elim
    (λ (here : is_pair out_id out_session id i x ≡ true). or_left (eqb id x.id) (is_given_out id xs) (and_parts (eqb id x.id) (eqb i x.session) here).0)
    (λ (later : is_out id i xs ≡ true). or_right (eqb id x.id) (is_given_out id xs) (given id i xs later))
    (or_cases (is_pair out_id out_session id i x) (is_out id i xs) e)

-- an id that nobody has out goes out once
given_once : (id session : ℕ) (out : List IdOut) → is_given_out id out ≡ false → IdsAreOutOnce out → IdsAreOutOnce (record { id = id; session = session } ∷ out)
given_once id session out free h a i j e f = ⊎_elim
    (λ (first : Now i ≡ true). ⊎_elim
    (λ (second : Now j ≡ true). owner i first ∙ sym (owner j second))
    (λ (later : is_out a j out ≡ true). absurd (taken i j first later))
    (or_cases (Now j) (is_out a j out) f))
    (λ (later : is_out a i out ≡ true). ⊎_elim
    (λ (second : Now j ≡ true). absurd (taken j i second later))
    (λ (too : is_out a j out ≡ true). h a i j later too)
    (or_cases (Now j) (is_out a j out) f))
    (or_cases (Now i) (is_out a i out) e)
  where
    Now : ℕ → Bool
    Now k = is_pair out_id out_session a k record { id = id; session = session }

    owner : (k : ℕ) → Now k ≡ true → k ≡ session
    owner k t = eqb-true k session (and_parts (eqb a id) (eqb k session) t).1

    taken : (k l : ℕ) → Now k ≡ true → is_out a l out ≡ true → ⊥
    taken k l t old = both_ways (is_given_out id out) free (subst (λ (z : ℕ). is_given_out z out ≡ true) (eqb-true a id (and_parts (eqb a id) (eqb k session) t).0) (given a l out old))

left_once : (id session : ℕ) (out : List IdOut) → IdsAreOutOnce out → IdsAreOutOnce (without_out id session out)
left_once id session out h a i j e f = h a i j (kept_pair out_id out_session id session a i out e) (kept_pair out_id out_session id session a j out f)

module _ {E : Type 0} where
  -- a load of the number of commits, by which the view v becomes w
  pub tells : (n slots id : ℕ) (v w : View E) → Quiet v w → Shown v w → Allows (KeepsRule n) slots id (v, []) 0 (λ z. z) (told w (step slots 0 0 0 none) (v, []))
  tells n slots id v w quiet shown s r _ at _ =
      let t = sits n s r id v at in (
        w,
        keeps,
        tt,
        still_step n s r 0 id [] v w at quiet shown,
        (refl, (record { parts = r.parts; is_of = t.0; right = t.1 }, ap (λ (l : List ℕ). get_or l 0 0) r.words ∙ sym (ap (λ (y : Parts E). length y.store.commits) (own_parts r.parts s.views id v at r.stand)))),
      )

  -- ---- what is kept of the locks and the sums

  pub kept_locks : (locks : List ℕ) (ids : List IdPart) (s t : StorePart E) → t.read_pins ≡ s.read_pins → t.write_pins ≡ s.write_pins → LocksAreRight locks ids s → LocksAreRight locks ids t
  kept_locks locks ids s t reads writes h = record {
    readers = h.readers;
    writers = h.writers;
    alone = h.alone;
    read_pins = subst (ReadPinsAreListed locks) (sym reads) h.read_pins;
    write_pins = subst (WritePinsAreListed locks) (sym writes) h.write_pins;
    read_locks = subst (ReadPinsHaveLocks locks) (sym reads) h.read_locks;
    write_locks = subst (WritePinsHaveLocks locks) (sym writes) h.write_locks;
  }

  pub session_told : (s t : StorePart E) (p q : SessionPart E) → SessionTold s t p q → Shown (store_session s p) (store_session t q)
  session_told s t p q h x is_of r =
      let at = is_of.session in
      let sum = sum_put session_failed x.sessions p.number p q at in
      let all = r.failed in
      let less = h.failed in record {
        right = subst (λ (i : ℕ). AreRight record { ids = x.ids; sessions = set x.sessions i q; store = t; maker = x.maker; locks = x.locks }) (sym h.number) record {
          locks = kept_locks x.locks x.ids s t h.reads h.writes r.locks;
          drawn = (r.drawn.0, r.drawn.1 ∙ sym (length-set x.sessions p.number q));
          sixteen = ap length h.records ∙ r.sixteen;
          ids = λ i small. id_grows s t i _ h.grows h.records (r.ids i small);
          sessions = sessions_put s t x.sessions p.number p q at (λ j o ne. session_grows s t j o h.grows (h.others j ne)) h.own r.sessions;
          out = h.out r.out;
          failed = omega (arith, sum, all, less);
        };
        notes = λ a. note_grows s t a h.grows;
        note = tt;
      }

  pub store_session_quiet : (s t : StorePart E) (p q : SessionPart E) → q.number ≡ p.number → IsStill s t → Quiet (store_session s p) (store_session t q)
  store_session_quiet s t p q number still = record { steps = record { id = tt; store = refl; session = number; maker = tt; closed = still.closed }; words = (still.commits, still.floor) }

  pub id_told : (s t : StorePart E) (p q : IdPart) → IdTold s t p q → Shown (store_id s p) (store_id t q)
  id_told s t p q h x is_of r =
      let at = is_of.id in
      let sum = sum_put id_failed x.ids p.id p q at in
      let all = r.failed in
      let less = h.failed in record {
        right = subst (λ (i : ℕ). AreRight record { ids = set x.ids i q; sessions = x.sessions; store = t; maker = x.maker; locks = x.locks }) (sym h.id) record {
          locks = kept_locks x.locks (set x.ids p.id q) s t h.reads h.writes (same_locks x.locks x.ids s p q at h.locks.0 h.locks.1 r.locks);
          drawn = (r.drawn.0 ∙ sym (length-set x.ids p.id q), r.drawn.1);
          sixteen = h.sixteen ∙ r.sixteen;
          ids = ids_put s t x.ids p.id p q at h.others (h.own r.sixteen) r.ids;
          sessions = λ i. session_grows s t i _ h.grows (h.sessions i) (r.sessions i);
          out = out_once s t h.sessions r.out;
          failed = omega (arith, sum, all, less);
        };
        notes = λ a. note_grows s t a h.grows;
        note = tt;
      }

  pub store_id_quiet : (s t : StorePart E) (p q : IdPart) → q.id ≡ p.id → IsStill s t → Quiet (store_id s p) (store_id t q)
  store_id_quiet s t p q id still = record { steps = record { id = id; store = refl; session = tt; maker = tt; closed = still.closed }; words = (still.commits, still.floor) }

  -- the store tells the session of its seat, and the id
  pub tells_session : (n slots id : ℕ) (s t : StorePart E) (p q : SessionPart E) → SessionTold s t p q → IsStill s t
      → Allows (KeepsRule n) slots id (store_session s p, []) 0 (λ z. z) (told (store_session t q) (step slots 0 0 0 none) (store_session s p, []))
  tells_session n slots id s t p q h still = tells n slots id _ _ (store_session_quiet s t p q h.number still) (session_told s t p q h)

  pub tells_id : (n slots id : ℕ) (s t : StorePart E) (p q : IdPart) → IdTold s t p q → IsStill s t
      → Allows (KeepsRule n) slots id (store_id s p, []) 0 (λ z. z) (told (store_id t q) (step slots 0 0 0 none) (store_id s p, []))
  tells_id n slots id s t p q h still = tells n slots id _ _ (store_id_quiet s t p q h.id still) (id_told s t p q h)

  -- ---- each kind of telling

  stop_is : (stop : Option (StoreStop E)) → IsStop (op_of stop) stop
  stop_is None = tt
  stop_is (Some s) = refl

  more_faults : (faults : ℕ) (s : StorePart E) → s.faults ≤ faults → Grows s (with_faults faults s)
  more_faults faults s more = record { commits = prefix_all s.commits; faults = more; stop = λ op e. e }

  pub may_tell : (faults : ℕ) (failed : Bool) (s : StorePart E) (p : SessionPart E) → counted failed s.faults ≤ faults → SessionTold s (with_faults faults s) p (told_all failed (with_faults faults s) p)
  may_tell faults failed s p more =
      let t = with_faults faults s in record {
        number = refl;
        grows = more_faults faults s (omega (arith, more));
        others = λ j _. same_of j s t refl refl refl;
        own = λ h. record {
          heard = record { begins = prefix_all s.commits; least = omega arith; most = omega arith; counted = omega arith; same_stop = stop_is s.stop };
          own = h.own;
          stopped = h.stopped;
          out = h.out;
        };
        out = λ h. h;
        failed = omega (arith, more);
        reads = refl;
        writes = refl;
        records = refl;
      }

  pub may_tell_id : (faults : ℕ) (failed : Bool) (s : StorePart E) (p : IdPart) → counted failed s.faults ≤ faults → IdTold s (with_faults faults s) p (told_faults failed (with_faults faults s) p)
  may_tell_id faults failed s p more =
      let t = with_faults faults s in
      let grows = more_faults faults s (omega (arith, more)) in record {
        id = refl;
        locks = (refl, refl);
        grows = grows;
        sessions = λ j. same_of j s t refl refl refl;
        others = λ j o _. id_grows s t j o grows refl;
        own = λ _ h. record { pages = h.pages; faults = omega arith; stop = stop_is s.stop };
        failed = omega (arith, more);
        reads = refl;
        writes = refl;
        sixteen = refl;
      }

  pub may_record : (pages : PassRecord) (s : StorePart E) (p : IdPart) → p.id < 16 → IdTold s (recording (with_pages pages p) s) p (with_pages pages p)
  may_record pages s p small =
      let q = with_pages pages p in
      let t = recording q s in record {
        id = refl;
        locks = (refl, refl);
        grows = grows_same s t refl refl refl;
        sessions = λ j. same_of j s t refl refl refl;
        others = λ j o ne h. record { pages = get_or-set_other s.records p.id j pages no_record ne ∙ h.pages; faults = h.faults; stop = h.stop };
        own = λ sixteen h. record { pages = get_or-set_same s.records p.id pages no_record (subst (λ (m : ℕ). p.id < m) (sym sixteen) small); faults = h.faults; stop = h.stop };
        failed = omega arith;
        reads = refl;
        writes = refl;
        sixteen = length-set s.records p.id pages;
      }

  pub may_give_out : (other : ℕ) (s : StorePart E) (p : SessionPart E) → is_given_out other s.out ≡ false → p.out ≡ None → SessionTold s (giving_out other p.number s) p (with_out (Some other) p)
  may_give_out other s p free none_yet =
      let t = giving_out other p.number s in record {
        number = refl;
        grows = grows_same s t refl refl refl;
        others = λ j ne. record { own = refl; stopped = refl; out = λ i. joined_else out_id out_session i j (record { id = other; session = p.number }) s.out ne };
        own = λ h. record {
          heard = record { begins = h.heard.begins; least = h.heard.least; most = h.heard.most; counted = h.heard.counted; same_stop = h.heard.same_stop };
          own = h.own;
          stopped = h.stopped;
          out = λ i. own_out other p.number i s.out (h.out i ∙ ap (has_out i) none_yet);
        };
        out = given_once other p.number s.out free;
        failed = omega arith;
        reads = refl;
        writes = refl;
        records = refl;
      }

  home : (s : StorePart E) (p : SessionPart E) (out : Option ℕ) → p.out ≡ out → SessionTold s (taking_home out p.number s) p (with_out None p)
  home s p None is = record {
    number = refl;
    grows = grows_same s s refl refl refl;
    others = λ j ne. same_of j s s refl refl refl;
    own = λ h. record {
      heard = record { begins = h.heard.begins; least = h.heard.least; most = h.heard.most; counted = h.heard.counted; same_stop = h.heard.same_stop };
      own = h.own;
      stopped = h.stopped;
      out = λ i. h.out i ∙ ap (has_out i) is;
    };
    out = λ h. h;
    failed = omega arith;
    reads = refl;
    writes = refl;
    records = refl;
  }
  home s p (Some other) is =
      let t = taking_home (Some other) p.number s in record {
        number = refl;
        grows = grows_same s t refl refl refl;
        others = λ j ne. record { own = refl; stopped = refl; out = λ i. else_pair out_id out_session other p.number i j s.out (λ e. ne (sym e.1)) };
        own = λ h. record {
          heard = record { begins = h.heard.begins; least = h.heard.least; most = h.heard.most; counted = h.heard.counted; same_stop = h.heard.same_stop };
          own = h.own;
          stopped = h.stopped;
          out = λ i. came_home other p.number i s.out (h.out i ∙ ap (has_out i) is);
        };
        out = left_once other p.number s.out;
        failed = omega arith;
        reads = refl;
        writes = refl;
        records = refl;
      }

  pub may_take_home : (s : StorePart E) (p : SessionPart E) → SessionTold s (taking_home p.out p.number s) p (with_out None p)
  may_take_home s p = home s p p.out refl

  pub home_still : (s : StorePart E) (number : ℕ) (out : Option ℕ) → IsStill s (taking_home out number s)
  home_still s number None = record { commits = refl; floor = refl; closed = refl }
  home_still s number (Some other) = record { commits = refl; floor = refl; closed = refl }

  -- ---- the store stops

  stops_grow : (s : StorePart E) (op : ℕ) (commit : Option (StoppedCommit E)) → s.stop ≡ None → Grows s (stopping op commit s)
  stops_grow s op commit none_yet = record { commits = prefix_all s.commits; faults = omega arith; stop = λ other e. absurd (let clash : None ≡ Some other = sym (ap op_of none_yet) ∙ e in cc) }

  none_stopped : (i : ℕ) (s : StorePart E) (op : ℕ) → s.stop ≡ None → SameOf i s (stopping op None s)
  none_stopped i s op none_yet = record { own = refl; stopped = sym (ap (stopped_of i) none_yet); out = λ _. refl }

  pub stops : (n slots id op : ℕ) (s : StorePart E) → s.stop ≡ None → Allows (KeepsRule n) slots id (store_view s, []) 0 (λ z. z) (told (store_view (stopping op None s)) (step slots 0 0 0 none) (store_view s, []))
  stops n slots id op s none_yet =
      let t = stopping op None s in
      let same : SameStore s t = record { grows = stops_grow s op None none_yet; same = λ i. none_stopped i s op none_yet; records = refl; closed = refl; commits = refl; floor = refl } in
      tells n slots id _ _ (store_quiet s t same) (λ x is_of r. store_keeps s t x.locks x same r (kept_locks x.locks x.ids s t refl refl r.locks))

  -- the store stops at the cut of the session's commit
  pub may_stop : (op : ℕ) (e : StoppedCommit E) (s : StorePart E) (p : SessionPart E) → s.stop ≡ None → e.session ≡ p.number → SessionTold s (stopping op (Some e) s) p (stopped_at op e p)
  may_stop op e s p none_yet by =
      let t = stopping op (Some e) s in record {
        number = refl;
        grows = stops_grow s op (Some e) none_yet;
        others = λ j ne. record { own = refl; stopped = ap (λ b. if b then Some e else None) (ne_eqb e.session j (λ same. ne (sym same ∙ by))) ∙ sym (ap (stopped_of j) none_yet); out = λ _. refl };
        own = λ h. record {
          heard = record { begins = h.heard.begins; least = h.heard.least; most = h.heard.most; counted = h.heard.counted; same_stop = refl };
          own = h.own;
          stopped = sym (ap (λ b. if b then Some e else None) (eq-eqb e.session p.number by));
          out = h.out;
        };
        out = λ h. h;
        failed = omega arith;
        reads = refl;
        writes = refl;
        records = refl;
      }

  -- ---- the looks of an id go to a session

  pub tells_looks : (n slots id : ℕ) (a : IdPart) (p : SessionPart E)
      → Allows (KeepsRule n) slots id (id_session a p, []) 0 (λ z. z) (told (id_session (without_looks a) (with_looks_of a p)) (step slots 0 0 0 none) (id_session a p, []))
  tells_looks n slots id a p =
      let b = without_looks a in
      let q = with_looks_of a p in
      tells n slots id _ _ record { steps = record { id = refl; store = tt; session = refl; maker = tt; closed = tt }; words = tt }
      (λ x is_of r.
      let ids = sum_put id_failed x.ids a.id a b is_of.id in
      let sessions = sum_put session_failed x.sessions p.number p q is_of.session in
      let all = r.failed in record {
        right = record {
          locks = same_locks x.locks x.ids x.store a b is_of.id refl refl r.locks;
          drawn = (r.drawn.0 ∙ sym (length-set x.ids a.id b), r.drawn.1 ∙ sym (length-set x.sessions p.number q));
          sixteen = r.sixteen;
          ids = ids_put x.store x.store x.ids a.id a b is_of.id (λ _ _ _ h. h) (λ h. record { pages = h.pages; faults = h.faults; stop = h.stop }) r.ids;
          sessions = sessions_put x.store x.store x.sessions p.number p q is_of.session (λ _ _ _ h. h)
              (λ h. record { heard = record { begins = h.heard.begins; least = h.heard.least; most = h.heard.most; counted = h.heard.counted; same_stop = h.heard.same_stop }; own = h.own; stopped = h.stopped; out = h.out }) r.sessions;
          out = r.out;
          failed = omega (arith, ids, sessions, all);
        };
        notes = λ _ h. h;
        note = tt;
      })
