-- A transaction begins and finishes, and its id comes back.
use Rattle.std.proofs.Common.{◌≡◌, ℕ, ◌<◌, ◌≤◌, List, [], ◌∷◌, length, All, refl, sym, ap, ◌∙◌, subst, arith, Bool, true, false, Option, Some, None, ⊎_elim}
use Rattle.std.specs.Prelude.{◌==◌, ◌&&◌, not, is_some, nat_lt, slice_get, slice_set, if◌then◌else◌}
use Rattle.std.specs.Option.{option_map}
use Rattle.std.proofs.lemmas.Bool.{cases_Bool, eq-eqb, ne_eqb}
use Rattle.std.proofs.lemmas.List.Elements.{All-nil}
use Rattle.spe_model.specs.Paging.{Given}
use Rattle.spe_model.specs.Trace.{present}
use Rattle.spe_transactions.specs.Pages.{named_count, page_at}
use Rattle.spe_transactions.specs.Work.{Works, no_works, without_id}
use Rattle.spe_transactions.proofs.CutWorkLemmas.{bare_ends}
use Rattle.spe_transactions.proofs.WorksLemmas.{dropped_other, dropped_own}
use Rattle.spe_store.specs.declared.work.Work.{Work}
use Rattle.spe_store.specs.Event.{Event, journalled_in, lives_in, open_in, out_in, seen_in, written_in}
use Rattle.spe_store.specs.Call.{is_free}
use Rattle.spe_store.specs.Event.Event.{Begun, Finished, Returned}
use Rattle.spe_store.specs.Opened.{Opened}
use Rattle.spe_store.specs.Pass.{AreAlike}
use Rattle.spe_store.specs.Saved.{saved_at}
use Rattle.spe_store.specs.Store.{AreSeen, IsEnd, IsListed, IsStored, NeverFall, Order, Store, due_count, pages_in}
use Rattle.spe_store.specs.Work.{HasBegun, HasEnded}
use Rattle.spe_store.proofs.EndLemmas.{IsEnding, bare_at, bare_ends_now, ended_lists}
use Rattle.spe_store.proofs.HeldLemmas.{due_fewer, due_same, listed, quiet_held, replaced}
use Rattle.spe_store.proofs.ListLemmas.{set_length}

pub none_from : (o : Option ℕ) → is_some o ≡ false → o ≡ None
none_from None e = refl
none_from (Some n) e = absurd cc

pub finishing : (events : List Event) (id : ℕ) → IsEnding events id (Finished id)
finishing es id = record { journalled = refl; written = refl; shuts = λ j. refl; dies = λ j. refl; stays = λ j. refl }

-- what the others have read stays
seen_without : (pages : List (List ℕ)) (seen : ℕ → Given) (id : ℕ) → ((j : ℕ) → AreSeen pages (seen j)) → (j p : ℕ) → All (λ bytes. page_at pages p ≡ Some bytes) (if j == id then [] else seen j p)
seen_without pages seen id sees j p = ⊎_elim
    (λ (own : (j == id) ≡ true). rw own (All-nil (λ bytes. page_at pages p ≡ Some bytes)))
    (λ (other : (j == id) ≡ false). rw other (sees j p))
    (cases_Bool (j == id))

few_due : (works : List Work) → due_count works ≤ length works
few_due [] = omega arith
few_due (w ∷ ws) = let rest = few_due ws in ⊎_elim (λ (due : w.due ≡ true). rw due (omega arith)) (λ (lacks : w.due ≡ false). rw lacks (omega arith)) (cases_Bool w.due)

module _ (opened : Opened) (s : Store) (works : List Work) (order : Order) (i : IsStored opened s works order) (going : s.desk.stopped ≡ None) (id : ℕ) (low : id < 16) (w : Work) (found : slice_get works id ≡ Some w) where
  -- the id is not out any more
  pub returned_held : (at : ℕ) → at ≡ id → (now : List Event) → now ≡ Returned id ∷ s.events
      → IsStored opened (record { desk = s.desk; events = now; page_size = s.page_size; count = s.count }) (slice_set works at (record w { out = false })) order
  returned_held at same now is =
      let x : Work = record w { out = false } in
      subst (λ (es : List Event). IsStored opened (record { desk = s.desk; events = es; page_size = s.page_size; count = s.count }) (slice_set works at (record w { out = false })) order) (sym is)
      (subst (λ (n : ℕ). IsStored opened (record { desk = s.desk; events = Returned id ∷ s.events; page_size = s.page_size; count = s.count }) (slice_set works n (record w { out = false })) order) (sym same)
      (quiet_held opened s works order i going (Returned id ∷ s.events) s.count (slice_set works id x) order (set_length works id x ∙ i.all)
      (subst (λ (n : ℕ). n ≤ order.room) (sym (due_same works id w x found refl)) i.room) i.ordered refl
      (λ lists.
      replaced (IsListed s.page_size (Returned id ∷ s.events)) works id x (omega (arith, i.all))
      (λ j y other there.
      let was = lists j y there in
      record {
        saved = was.saved;
        changed = was.changed;
        own = was.own;
        begun = was.begun;
        due = was.due;
        out = was.out ∙ sym (ap (λ (b : Bool). if b then false else out_in s.events j) (ne_eqb j id other));
        sized = was.sized;
      })
      (let was = lists id w found in
      record {
        saved = was.saved;
        changed = was.changed;
        own = was.own;
        begun = was.begun;
        due = was.due;
        out = sym (ap (λ (b : Bool). if b then false else out_in s.events id) (eq-eqb id id refl));
        sized = was.sized;
      }))
      (λ lists h told v. record { kept = v.kept; seen = v.seen; counted = v.counted; sized = v.sized; ends = replaced (IsEnd (present h)) works id x (omega (arith, i.all)) (λ j y other there. v.ends j y there) (let was = v.ends id w found in record { at = was.at; nonce = was.nonce }) })))

  -- a transaction whose journal is not open has finished
  pub finished_held : open_in s.events id ≡ false → (idle : Work) → HasEnded w idle → (at : ℕ) → at ≡ id → (now : List Event) → now ≡ Finished id ∷ s.events
      → IsStored opened (record { desk = s.desk; events = now; page_size = s.page_size; count = s.count }) (slice_set works at idle) order
  finished_held shut idle is_idle at same now is =
      let end = finishing s.events id in
      let none : nat_lt 0 w.end ≡ false = (listed opened s works order i going id w found).begun ∙ shut in
      subst (λ (es : List Event). IsStored opened (record { desk = s.desk; events = es; page_size = s.page_size; count = s.count }) (slice_set works at idle) order) (sym is)
      (subst (λ (n : ℕ). IsStored opened (record { desk = s.desk; events = Finished id ∷ s.events; page_size = s.page_size; count = s.count }) (slice_set works n idle) order) (sym same)
      (quiet_held opened s works order i going (Finished id ∷ s.events) s.count (slice_set works id idle) order (set_length works id idle ∙ i.all)
      (let few = due_fewer works id w idle found is_idle.due in let room = i.room in omega arith) i.ordered refl
      (ended_lists opened s works order i id low w found idle is_idle (Finished id) end)
      (λ lists h told v.
      record {
        kept = record {
          stops = v.kept.stops;
          work = (bare_ends (present h) (pages_in opened s.events) (journalled_in s.events) (written_in s.events) v.kept.work id low (bare_at opened s works id w found none h v)).work;
        };
        seen = seen_without (pages_in opened s.events) (seen_in s.events) id v.seen;
        counted = v.counted;
        sized = v.sized;
        ends = bare_ends_now opened s works order i id low w found idle is_idle (Finished id) end none h v;
      })))

  -- one begins with an id whose journal is not open
  pub begun_held : w.end ≡ 0 → (x : Work) → HasBegun w x → (list : Order) → list.rows ≡ order.rows → 16 ≤ list.room → (at : ℕ) → at ≡ id → (now : List Event) → now ≡ Begun id ∷ s.events
      → IsStored opened (record { desk = s.desk; events = now; page_size = s.page_size; count = s.count }) (slice_set works at x) list
  begun_held shut x has list rows room at same now is =
      let none : nat_lt 0 w.end ≡ false = ap (nat_lt 0) shut in
      subst (λ (es : List Event). IsStored opened (record { desk = s.desk; events = es; page_size = s.page_size; count = s.count }) (slice_set works at x) list) (sym is)
      (subst (λ (n : ℕ). IsStored opened (record { desk = s.desk; events = Begun id ∷ s.events; page_size = s.page_size; count = s.count }) (slice_set works n x) list) (sym same)
      (quiet_held opened s works order i going (Begun id ∷ s.events) s.count (slice_set works id x) list (set_length works id x ∙ i.all)
      (let few = few_due (slice_set works id x) in omega (arith, set_length works id x, i.all))
      (record { rows = rows ∙ i.ordered.rows; ended = subst (All (λ c. c.ops ≤ s.desk.ops)) (sym rows) i.ordered.ended; sorted = subst NeverFall (sym rows) i.ordered.sorted }) refl
      (λ lists.
      replaced (IsListed s.page_size (Begun id ∷ s.events)) works id x (omega (arith, i.all))
      (λ j y other there.
      let was = lists j y there in
      record {
        saved = λ p. was.saved p ∙ sym (dropped_other id (journalled_in s.events) j p other);
        changed = λ p own. was.changed p (ap is_some (sym (dropped_other id (journalled_in s.events) j p other)) ∙ own) ∙ ap is_some (sym (dropped_other id (written_in s.events) j p other));
        own = was.own ∙ ap (option_map named_count) (sym (dropped_other id (written_in s.events) j 1 other));
        begun = was.begun;
        due = was.due ∙ sym (ap (λ (b : Bool). if b then true else lives_in s.events j) (ne_eqb j id other));
        out = was.out ∙ sym (ap (λ (b : Bool). if b then true else out_in s.events j) (ne_eqb j id other));
        sized = was.sized;
      })
      (let was = lists id w found in
      record {
        saved = λ p. ap (saved_at p) has.saved ∙ sym (dropped_own id (journalled_in s.events) p);
        changed = λ p own. absurd (let impossible : false ≡ true = sym (ap is_some (dropped_own id (journalled_in s.events) p)) ∙ own in cc);
        own = has.own ∙ ap (option_map named_count) (sym (dropped_own id (written_in s.events) 1));
        begun = ap (nat_lt 0) (has.end ∙ sym shut) ∙ was.begun;
        due = has.due ∙ sym (ap (λ (b : Bool). if b then true else lives_in s.events id) (eq-eqb id id refl));
        out = has.out ∙ sym (ap (λ (b : Bool). if b then true else out_in s.events id) (eq-eqb id id refl));
        sized = λ p bytes there. absurd (let impossible : None ≡ Some bytes = sym (ap (saved_at p) has.saved) ∙ there in cc);
      }))
      (λ lists h told v.
      record {
        kept = record {
          stops = v.kept.stops;
          work = (bare_ends (present h) (pages_in opened s.events) (journalled_in s.events) (written_in s.events) v.kept.work id low (bare_at opened s works id w found none h v)).work;
        };
        seen = seen_without (pages_in opened s.events) (seen_in s.events) id v.seen;
        counted = v.counted;
        sized = v.sized;
        ends = replaced (IsEnd (present h)) works id x (omega (arith, i.all)) (λ j y other there. v.ends j y there)
            (let was = v.ends id w found in record { at = has.end ∙ sym shut ∙ was.at; nonce = λ some. absurd (let zero_end = has.end in omega arith) });
      })))

-- a transaction that has begun is what its pass lists
without_all : (f g : Works) (id : ℕ) → without_id id f id ≡ without_id id g id
without_all f g id =
    ap {B = ℕ → Option (List ℕ)} (λ (b : Bool) (q : ℕ). if b then no_works 0 q else f id q) (eq-eqb id id refl) ∙ sym (ap {B = ℕ → Option (List ℕ)} (λ (b : Bool) (q : ℕ). if b then no_works 0 q else g id q) (eq-eqb id id refl))

pub begun_alike : (events : List Event) (id : ℕ) → open_in events id ≡ false → AreAlike (Begun id ∷ events) (Begun id ∷ []) id
begun_alike events id shut = record {
  begun = shut;
  lives = ap (λ (b : Bool). if b then true else lives_in events id) (eq-eqb id id refl) ∙ sym (ap (λ (b : Bool). if b then true else false) (eq-eqb id id refl));
  journalled = without_all (journalled_in events) no_works id;
  written = without_all (written_in events) no_works id;
  seen =
      ap {B = ℕ → List (List ℕ)} (λ (b : Bool) (q : ℕ). if b then seen_in [] 0 q else seen_in events id q) (eq-eqb id id refl)
      ∙ sym (ap {B = ℕ → List (List ℕ)} (λ (b : Bool) (q : ℕ). if b then seen_in [] 0 q else seen_in [] id q) (eq-eqb id id refl));
}

-- an id that is free has no journal that is open
pub free_shut : (events : List Event) (id : ℕ) → is_free events id ≡ true → open_in events id ≡ false
free_shut events id free = by_test (out_in events id) (open_in events id) free
  where
    by_test : (a b : Bool) → (not a && not b) ≡ true → b ≡ false
    by_test true b e = absurd cc
    by_test false true e = absurd cc
    by_test false false e = refl

-- there is room for more commits, as before at least
pub roomier_held : (opened : Opened) (s : Store) (works : List Work) (order list : Order) → IsStored opened s works order → list.rows ≡ order.rows → order.room ≤ list.room → IsStored opened s works list
roomier_held opened s works order list i rows room = record {
  low = i.low;
  high = i.high;
  found = i.found;
  all = i.all;
  of = i.of;
  ordered = record { rows = rows ∙ i.ordered.rows; ended = subst (All (λ c. c.ops ≤ s.desk.ops)) (sym rows) i.ordered.ended; sorted = subst NeverFall (sym rows) i.ordered.sorted };
  room = let less = i.room in omega (arith, less, room);
  held = i.held;
}
