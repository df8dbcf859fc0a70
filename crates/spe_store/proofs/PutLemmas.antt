-- A transaction writes a page of the database, or gives one its old bytes.
use Rattle.std.proofs.Common.{◌≡◌, ◌≢◌, ◌≤◌, ℕ, ◌-◌, ◌*◌, ◌<◌, List, [], ◌∷◌, length, take, drop, refl, sym, ap, ◌∙◌, subst, arith, Bool, true, false, Option, Some, None, Err, ⊎_elim, inl, inr}
use Rattle.std.specs.Prelude.{◌==◌, is_some, nat_lt, slice_get, slice_set, if◌then◌else◌}
use Rattle.std.specs.Option.{option_map}
use Rattle.std.proofs.lemmas.Bool.{cases_eq, eq-eqb, ne_eqb}
use Rattle.spe_model.specs.declared.file.FileNo.TheVariants.{Database}
use Rattle.spe_model.specs.Big.{u32_at}
use Rattle.spe_model.specs.Content.{Content}
use Rattle.spe_model.specs.Recovery.{journal_of}
use Rattle.spe_model.specs.Rollback.{write_of}
use Rattle.spe_model.specs.Trace.{History, Operation, made_by, present}
use Rattle.spe_model.specs.Trace.Operation.{Write}
use Rattle.spe_crash.proofs.FileLemmas.{database_leaves}
use Rattle.spe_transactions.specs.Kept.{WorkKept}
use Rattle.spe_transactions.specs.Made.{Makes}
use Rattle.spe_transactions.specs.Pages.{named_count}
use Rattle.spe_transactions.specs.Work.{has_page, with_page, without_page}
use Rattle.spe_transactions.proofs.PageLemmas.{page_there, size_is}
use Rattle.spe_transactions.proofs.WorkLemmas.{front_of}
use Rattle.spe_crash.proofs.PagesLemmas.{opened as opened_pages, some_pages}
use Rattle.spe_model.specs.Header.{is_size_valid}
use Rattle.spe_model.specs.Settled.{header_in, page_in}
use Rattle.spe_transactions.proofs.PageWorkLemmas.{put_works, undo_works}
use Rattle.spe_transactions.proofs.WorksLemmas.{with_at, with_other_id, with_other_page, without_at, without_other_id, without_other_page}
use Rattle.spe_store.specs.declared.stop.Stop.{Stop}
use Rattle.spe_store.specs.declared.work.Work.{Work}
use Rattle.spe_store.specs.Desk.{Desk, Does, Tries}
use Rattle.spe_store.specs.Event.{Event, entries_in, journalled_in, seen_in, written_in}
use Rattle.spe_store.specs.Event.Event.{Written, Undone}
use Rattle.spe_store.specs.Saved.{changed_at, saved_at}
use Rattle.spe_store.specs.Opened.{Opened}
use Rattle.spe_store.specs.Store.{AreListed, AreSeen, IfTold, IsEnd, IsListed, IsServing, IsStored, Order, Store, pages_in}
use Rattle.spe_store.specs.Call.{HasFront, MayAdd, MayWrite}
use Rattle.spe_store.specs.Served.{Entry, Says, commits_of, pages_of}
use Rattle.spe_store.specs.Work.{HasUndone, HasWritten}
use Rattle.spe_store.proofs.HeldLemmas.{added, done_held, due_same, order_on, part_kept, refused_held, replaced, step_on}
use Rattle.spe_store.proofs.ListLemmas.{set_length}
use Rattle.spe_store.proofs.OpenLemmas.{now_is}
use Rattle.spe_store.proofs.SavedLemmas.{saved_some}

write_leaves : (at : ℕ) (bytes : List ℕ) (content : Content) (i : ℕ) → journal_of (made_by (Write Database at bytes) content) i ≡ journal_of content i
write_leaves at [] content i = refl
write_leaves at (b ∷ bs) content i = database_leaves content _ i

-- the journals stay as a page is written
page_leaves : (size page : ℕ) (bytes : List ℕ) (content : Content) (i : ℕ) → journal_of (made_by (write_of size (record { page = page; content = bytes })) content) i ≡ journal_of content i
page_leaves size page bytes content i = by_test (page == 1)
  where
    by_test : (first : Bool) → journal_of (made_by (if first then Write Database 24 (drop 24 bytes) else Write Database ((page - 1) * size) bytes) content) i ≡ journal_of content i
    by_test true = write_leaves 24 (drop 24 bytes) content i
    by_test false = write_leaves ((page - 1) * size) bytes content i

module _ (opened : Opened) (s : Store) (works : List Work) (order : Order) (i : IsStored opened s works order) (id : ℕ) (low : id < 16) (w : Work) (found : slice_get works id ≡ Some w) (page : ℕ) (bytes : List ℕ) (desk : Desk) where
  abbrev pub op : Operation
  op = write_of s.page_size (record { page = page; content = bytes })

  -- what the store holds of the transactions afterwards
  ends_now : (x : Work) → x.nonce ≡ w.nonce → x.end ≡ w.end → (h : History) → (v : IsServing opened h s.events s.page_size s.count works)
      → (j : ℕ) (y : Work) → slice_get (slice_set works id x) j ≡ Some y → IsEnd (present (added h op)) j y
  ends_now x nonce end h v =
      let leaves = λ (j : ℕ). ap (λ (c : Content). journal_of c j) (now_is h op) ∙ page_leaves s.page_size page bytes (present h) j in
      replaced (IsEnd (present (added h op))) works id x (omega (arith, i.all))
      (λ j y other at.
      let was = v.ends j y at in
      record { at = was.at ∙ ap length (sym (leaves j)); nonce = λ begun. ap (λ (journal : List ℕ). u32_at journal 12) (leaves j) ∙ was.nonce begun })
      (let was = v.ends id w found in
      record {
        at = end ∙ was.at ∙ ap length (sym (leaves id));
        nonce = λ begun. ap (λ (journal : List ℕ). u32_at journal 12) (leaves id) ∙ was.nonce (subst (λ (n : ℕ). 0 < n) end begun) ∙ sym nonce;
      })

  serves_now : (x : Work) → x.nonce ≡ w.nonce → x.end ≡ w.end → (e : Event) → entries_in (e ∷ s.events) ≡ entries_in s.events → (h : History) → (v : IsServing opened h s.events s.page_size s.count works)
      → ((j : ℕ) → AreSeen (pages_in opened s.events) (seen_in (e ∷ s.events) j)) → WorkKept (Says opened (entries_in s.events)) opened.pages (added h op) (commits_of (entries_in s.events)) (journalled_in (e ∷ s.events)) (written_in (e ∷ s.events))
      → IsServing opened (added h op) (e ∷ s.events) s.page_size s.count (slice_set works id x)
  serves_now x nonce end e entries h v v_seen kept = record {
    kept = subst (λ (es : List Entry). WorkKept (Says opened es) opened.pages (added h op) (commits_of es) (journalled_in (e ∷ s.events)) (written_in (e ∷ s.events))) (sym entries) kept;
    seen = λ j. subst (λ (es : List Entry). AreSeen (pages_of opened es) (seen_in (e ∷ s.events) j)) (sym entries) (v_seen j);
    counted = v.counted ∙ ap (λ (es : List Entry). length (pages_of opened es)) (sym entries);
    sized = v.sized ∙ size_is (present h) (pages_in opened s.events) v.kept.work.recovers ∙ sym (size_is (present (added h op)) (pages_in opened s.events) kept.work.recovers);
    ends = ends_now x nonce end h v;
  }

  module _ (sized : length bytes ≡ s.page_size) (front : page ≡ 1 → HasFront opened s bytes) (may : MayWrite opened s id page) where
    puts : (h : History) → s.desk.told ≡ Some h → (v : IsServing opened h s.events s.page_size s.count works) → Makes (present h) op (pages_in opened s.events) (pages_in opened s.events) (journalled_in s.events) (with_page id page bytes (written_in s.events))
    puts h told v =
        subst (λ (size : ℕ). Makes (present h) (write_of size (record { page = page; content = bytes })) (pages_in opened s.events) (pages_in opened s.events) (journalled_in s.events) (with_page id page bytes (written_in s.events))) (sym v.sized)
        (put_works (present h) (pages_in opened s.events) (journalled_in s.events) (written_in s.events) v.kept.work id page bytes (sized ∙ v.sized)
        (λ first.
        subst (λ (t : Option History). IfTold t (λ g. take 24 bytes ≡ take 24 (page_in (pages_in opened s.events) 1))) told (front first)
        ∙ front_of (present h) (pages_in opened s.events) (page_in (pages_in opened s.events) 1) v.kept.work.recovers
        (page_there (pages_in opened s.events) 1 (omega arith) (some_pages (present h) (pages_in opened s.events) (opened_pages (present h) (pages_in opened s.events) v.kept.work.recovers))))
        (⊎_elim
        (λ (own : has_page (journalled_in s.events) id page ≡ true). inl own)
        (λ (above : MayAdd opened s id page).
        inr (record {
          above = subst (λ (n : ℕ). n < page) v.counted above.above;
          counted = subst (λ (t : Option History). IfTold t (λ g. is_size_valid (header_in (pages_in opened s.events)) ≡ true)) told above.counted;
          first = above.first;
        }))
        may))

    pub write_refused : (stop : Stop) → Tries s.desk desk op (Err stop) → IsStored opened (record { desk = desk; events = s.events; page_size = s.page_size; count = s.count }) works order
    write_refused stop tried = refused_held opened s works order i desk op stop tried
        (λ lists h told v part left. part_kept opened s works order i h v op (journalled_in s.events) (with_page id page bytes (written_in s.events)) (puts h told v) part left)
        works i.all i.room

    own_is : (x : Work) → HasWritten page bytes w x → w.own ≡ option_map named_count (written_in s.events id 1) → x.own ≡ option_map named_count (with_page id page bytes (written_in s.events) id 1)
    own_is x has was = ⊎_elim
        (λ (first : page ≡ 1).
        has.own ∙ ap (λ (b : Bool). if b then Some (named_count bytes) else w.own) (eq-eqb page 1 first)
        ∙ ap (option_map named_count) (sym (with_at id page bytes (written_in s.events)) ∙ ap (with_page id page bytes (written_in s.events) id) first))
        (λ (other : page ≢ 1).
        has.own ∙ ap (λ (b : Bool). if b then Some (named_count bytes) else w.own) (ne_eqb page 1 other)
        ∙ was ∙ ap (option_map named_count) (sym (with_other_page id page bytes (written_in s.events) id 1 (λ same. other (sym same)))))
        (cases_eq page 1)

    lists_written : (x : Work) → HasWritten page bytes w x → AreListed s.page_size s.events works → AreListed s.page_size (Written id page bytes ∷ s.events) (slice_set works id x)
    lists_written x has lists = replaced (IsListed s.page_size (Written id page bytes ∷ s.events)) works id x (omega (arith, i.all))
        (λ j y other at.
        let was = lists j y at in
        let same = λ (p : ℕ). with_other_id id page bytes (written_in s.events) j p other in
        record {
          saved = was.saved;
          changed = λ p own. was.changed p own ∙ ap is_some (sym (same p));
          own = was.own ∙ ap (option_map named_count) (sym (same 1));
          begun = was.begun;
          due = was.due;
          out = was.out;
          sized = was.sized;
        })
        (let was = lists id w found in
        record {
          saved = λ p. has.saved.saved p ∙ was.saved p;
          changed = λ p own.
              ⊎_elim
              (λ (here : p ≡ page).
              ap (λ (q : ℕ). changed_at q x.saved) here
              ∙ has.saved.here (sym (saved_some page w.saved) ∙ ap is_some (was.saved page) ∙ ap (λ (q : ℕ). is_some (journalled_in s.events id q)) (sym here) ∙ own)
              ∙ sym (ap (λ (q : ℕ). is_some (with_page id page bytes (written_in s.events) id q)) here ∙ ap is_some (with_at id page bytes (written_in s.events))))
              (λ (other : p ≢ page).
              has.saved.other p other ∙ was.changed p own ∙ ap is_some (sym (with_other_page id page bytes (written_in s.events) id p other)))
              (cases_eq p page);
          own = own_is x has was.own;
          begun = ap (nat_lt 0) has.end ∙ was.begun;
          due = has.due ∙ was.due;
          out = has.out ∙ was.out;
          sized = λ p b at. was.sized p b (sym (has.saved.saved p) ∙ at);
        })

    pub write_done : Does s.desk desk op → (x : Work) → HasWritten page bytes w x → (at : ℕ) → at ≡ id → (now : List Event) → now ≡ Written id page bytes ∷ s.events
        → IsStored opened (record { desk = desk; events = now; page_size = s.page_size; count = s.count }) (slice_set works at x) order
    write_done does x has at same now is =
        subst (λ (es : List Event). IsStored opened (record { desk = desk; events = es; page_size = s.page_size; count = s.count }) (slice_set works at x) order) (sym is)
        (subst (λ (n : ℕ). IsStored opened (record { desk = desk; events = Written id page bytes ∷ s.events; page_size = s.page_size; count = s.count }) (slice_set works n x) order) (sym same)
        (done_held opened s works order i desk op does (Written id page bytes ∷ s.events) s.count (slice_set works id x) order (set_length works id x ∙ i.all) (subst (λ (n : ℕ). n ≤ order.room) (sym (due_same works id w x found has.due)) i.room) (order_on opened s works order i desk op does) refl (lists_written x has)
        (λ lists h told v.
        serves_now x has.nonce has.end (Written id page bytes) refl h v v.seen
        (step_on opened s works order i h v op (journalled_in s.events) (with_page id page bytes (written_in s.events)) (puts h told v)))))

  module _ (saved : saved_at page w.saved ≡ Some bytes) where
    undoes : AreListed s.page_size s.events works → (h : History) → (v : IsServing opened h s.events s.page_size s.count works) → Makes (present h) op (pages_in opened s.events) (pages_in opened s.events) (journalled_in s.events) (without_page id page (written_in s.events))
    undoes lists h v =
        subst (λ (size : ℕ). Makes (present h) (write_of size (record { page = page; content = bytes })) (pages_in opened s.events) (pages_in opened s.events) (journalled_in s.events) (without_page id page (written_in s.events))) (sym v.sized)
        (undo_works (present h) (pages_in opened s.events) (journalled_in s.events) (written_in s.events) v.kept.work id page bytes (sym ((lists id w found).saved page) ∙ saved))

    pub undo_refused : (stop : Stop) → Tries s.desk desk op (Err stop) → IsStored opened (record { desk = desk; events = s.events; page_size = s.page_size; count = s.count }) works order
    undo_refused stop tried = refused_held opened s works order i desk op stop tried
        (λ lists h told v part left. part_kept opened s works order i h v op (journalled_in s.events) (without_page id page (written_in s.events)) (undoes lists h v) part left)
        works i.all i.room

    own_left : (x : Work) → HasUndone page w x → w.own ≡ option_map named_count (written_in s.events id 1) → x.own ≡ option_map named_count (without_page id page (written_in s.events) id 1)
    own_left x has was = ⊎_elim
        (λ (first : page ≡ 1).
        has.own ∙ ap (λ (b : Bool). if b then None else w.own) (eq-eqb page 1 first)
        ∙ ap (option_map named_count) (sym (without_at id page (written_in s.events)) ∙ ap (without_page id page (written_in s.events) id) first))
        (λ (other : page ≢ 1).
        has.own ∙ ap (λ (b : Bool). if b then None else w.own) (ne_eqb page 1 other)
        ∙ was ∙ ap (option_map named_count) (sym (without_other_page id page (written_in s.events) id 1 (λ same. other (sym same)))))
        (cases_eq page 1)

    pub lists_undone : (x : Work) → HasUndone page w x → AreListed s.page_size s.events works → AreListed s.page_size (Undone id page ∷ s.events) (slice_set works id x)
    lists_undone x has lists = replaced (IsListed s.page_size (Undone id page ∷ s.events)) works id x (omega (arith, i.all))
        (λ j y other at.
        let was = lists j y at in
        let same = λ (p : ℕ). without_other_id id page (written_in s.events) j p other in
        record {
          saved = was.saved;
          changed = λ p own. was.changed p own ∙ ap is_some (sym (same p));
          own = was.own ∙ ap (option_map named_count) (sym (same 1));
          begun = was.begun;
          due = was.due;
          out = was.out;
          sized = was.sized;
        })
        (let was = lists id w found in
        record {
          saved = λ p. has.saved.saved p ∙ was.saved p;
          changed = λ p own.
              ⊎_elim
              (λ (here : p ≡ page).
              ap (λ (q : ℕ). changed_at q x.saved) here
              ∙ has.saved.here (sym (saved_some page w.saved) ∙ ap is_some saved)
              ∙ sym (ap (λ (q : ℕ). is_some (without_page id page (written_in s.events) id q)) here ∙ ap is_some (without_at id page (written_in s.events))))
              (λ (other : p ≢ page).
              has.saved.other p other ∙ was.changed p own ∙ ap is_some (sym (without_other_page id page (written_in s.events) id p other)))
              (cases_eq p page);
          own = own_left x has was.own;
          begun = ap (nat_lt 0) has.end ∙ was.begun;
          due = has.due ∙ was.due;
          out = has.out ∙ was.out;
          sized = λ p b at. was.sized p b (sym (has.saved.saved p) ∙ at);
        })

    pub undo_done : Does s.desk desk op → (x : Work) → HasUndone page w x → (at : ℕ) → at ≡ id → (now : List Event) → now ≡ Undone id page ∷ s.events
        → IsStored opened (record { desk = desk; events = now; page_size = s.page_size; count = s.count }) (slice_set works at x) order
    undo_done does x has at same now is =
        subst (λ (es : List Event). IsStored opened (record { desk = desk; events = es; page_size = s.page_size; count = s.count }) (slice_set works at x) order) (sym is)
        (subst (λ (n : ℕ). IsStored opened (record { desk = desk; events = Undone id page ∷ s.events; page_size = s.page_size; count = s.count }) (slice_set works n x) order) (sym same)
        (done_held opened s works order i desk op does (Undone id page ∷ s.events) s.count (slice_set works id x) order (set_length works id x ∙ i.all) (subst (λ (n : ℕ). n ≤ order.room) (sym (due_same works id w x found has.due)) i.room) (order_on opened s works order i desk op does) refl (lists_undone x has)
        (λ lists h told v.
        serves_now x has.nonce has.end (Undone id page) refl h v v.seen
        (step_on opened s works order i h v op (journalled_in s.events) (without_page id page (written_in s.events)) (undoes lists h v)))))
