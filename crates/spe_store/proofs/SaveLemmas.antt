-- A transaction saves a page in its journal.
use Rattle.std.proofs.Common.{◌≡◌, ◌≢◌, ℕ, zero, suc, ◌+◌, ◌-◌, ◌*◌, ◌<◌, ◌≤◌, List, [], ◌∷◌, ◌++◌, length, take, drop, get_or, refl, sym, ap, ◌∙◌, subst, arith, Bool, true, false, Option, Some, None, Err, ⊎_elim, get_or-drop, length-append}
use Rattle.std.specs.Prelude.{is_some, nat_lt, slice_get, slice_set}
use Rattle.std.proofs.lemmas.Bool.{cases_eq, ltb-true}
use Rattle.std.proofs.lemmas.Bool.Decides.{nat_tests}
use Rattle.std.proofs.lemmas.List.{append-nil}
use Rattle.spe_model.specs.declared.file.FileNo.TheVariants.{Database, Journal}
use Rattle.spe_model.specs.Big.{u32_at}
use Rattle.spe_model.specs.Content.{Content, bytes_of, filled, zeros}
use Rattle.spe_model.specs.Journal.{record_bytes}
use Rattle.spe_model.specs.Recovery.{file_page, file_page_size, journal_of}
use Rattle.spe_model.specs.Settled.{page_in}
use Rattle.spe_model.specs.Trace.{History, Operation, made_by, present}
use Rattle.spe_model.specs.Trace.Operation.{Write}
use Rattle.spe_journal.proofs.HotLemmas.{record_long, written_long}
use Rattle.spe_disk.specs.Told.{Adds}
use Rattle.spe_transactions.specs.Kept.{grown}
use Rattle.spe_transactions.specs.Made.{Makes}
use Rattle.spe_transactions.specs.Work.{IsJournal, has_page, with_page}
use Rattle.spe_transactions.specs.Pages.{page_at}
use Rattle.spe_transactions.proofs.JournalLemmas.{record_works}
use Rattle.spe_transactions.proofs.MovedLemmas.{IsMoved, moved_behind}
use Rattle.spe_transactions.proofs.PageLemmas.{page_there, size_is}
use Rattle.spe_transactions.proofs.WorkLemmas.{kept_ends, none_written}
use Rattle.spe_transactions.proofs.WorksLemmas.{with_at, with_other_id, with_other_page}
use Rattle.spe_store.specs.declared.stop.Stop.{Stop}
use Rattle.spe_store.specs.declared.work.Work.{Work}
use Rattle.spe_store.specs.Desk.{Desk, Does, ReadsPage, Tries}
use Rattle.spe_store.specs.Event.{Event, journalled_in, open_in, written_in}
use Rattle.spe_store.specs.Event.Event.{Journalled}
use Rattle.spe_store.specs.Saved.{changed_at, has_saved, saved_at}
use Rattle.spe_store.specs.Opened.{Opened}
use Rattle.spe_store.specs.Store.{AreListed, IfTold, IsEnd, IsListed, IsServing, IsStored, Order, Store, pages_in}
use Rattle.spe_store.specs.Call.{MayJournal}
use Rattle.spe_store.specs.Work.{IsSavedIn}
use Rattle.spe_store.proofs.HeldLemmas.{added, done_held, due_same, listed, order_on, part_kept, refused_held, replaced, served, step_on}
use Rattle.spe_store.proofs.ListLemmas.{set_length}
use Rattle.spe_store.proofs.OpenLemmas.{now_is}
use Rattle.spe_store.proofs.SavedLemmas.{absent_changed, saved_some}

u32_bytes : (bytes : List ℕ) → u32_at bytes 12 ≡ ((get_or bytes 12 0 * 256 + get_or bytes 13 0) * 256 + get_or bytes 14 0) * 256 + get_or bytes 15 0
unfolding u32_at
u32_bytes bytes = rw (get_or-drop 12 bytes 0 0, get_or-drop 12 bytes 1 0, get_or-drop 12 bytes 2 0, get_or-drop 12 bytes 3 0) (omega arith)

get_front : (front behind : List ℕ) (n : ℕ) → n < length front → get_or (front ++ behind) n 0 ≡ get_or front n 0
get_front [] behind n low = absurd (omega arith)
get_front (x ∷ xs) behind zero low = refl
get_front (x ∷ xs) behind (suc n) low = get_front xs behind n (omega arith)

-- the nonce of a journal stays as it grows
nonce_stays : (front behind : List ℕ) → 16 ≤ length front → u32_at (front ++ behind) 12 ≡ u32_at front 12
nonce_stays front behind long =
    u32_bytes (front ++ behind)
    ∙ rw (get_front front behind 12 (omega arith), get_front front behind 13 (omega arith), get_front front behind 14 (omega arith), get_front front behind 15 (omega arith)) refl
    ∙ sym (u32_bytes front)

pub none_given : (found : Option (List ℕ)) → is_some found ≡ false → found ≡ None
none_given None e = refl
none_given (Some bytes) e = absurd cc

-- a page that the file has whole is read as it is
pub whole_page : (content : Content) (size page : ℕ) (bytes : List ℕ) → size ≡ file_page_size content → 1 ≤ page → page * file_page_size content ≤ length (bytes_of content Database)
    → bytes ≡ filled (bytes_of content Database) ((page - 1) * size) size → bytes ≡ file_page content page
whole_page content size page bytes sized some ends read =
    let none : size - (length (bytes_of content Database) - (page - 1) * size) ≡ 0 = by_size page size (length (bytes_of content Database)) some (rw (sym sized) at ends) in
    read ∙ ap (λ (n : ℕ). take size (drop ((page - 1) * size) (bytes_of content Database)) ++ zeros n) none
    ∙ append-nil (take size (drop ((page - 1) * size) (bytes_of content Database)))
    ∙ ap (λ (n : ℕ). take n (drop ((page - 1) * n) (bytes_of content Database))) sized
  where
    by_size : (p size long : ℕ) → 1 ≤ p → p * size ≤ long → size - (long - (p - 1) * size) ≡ 0
    by_size zero size long low fits = absurd (omega arith)
    by_size (suc n) size long low fits = let back : suc n - 1 ≡ n = omega arith in rw back (omega arith)

module _ (opened : Opened) (s : Store) (works : List Work) (order : Order) (i : IsStored opened s works order) (id : ℕ) (low : id < 16) (begun : open_in s.events id ≡ true) (page : ℕ) (free : MayJournal s id page) (lacks : has_page (journalled_in s.events) id page ≡ false) (w : Work) (found : slice_get works id ≡ Some w)
    (old : List ℕ) (read : ReadsPage s.desk.told s.page_size page old) (sized : length old ≡ s.page_size) (text : List ℕ) (text_is : text ≡ record_bytes w.nonce page old) where
  abbrev op : Operation
  op = Write (Journal id) w.end text

  some_end : AreListed s.page_size s.events works → 0 < w.end
  some_end lists = ltb-true 0 w.end ((lists id w found).begun ∙ begun)

  -- no transaction has journalled it
  none_has : (j : ℕ) → has_page (journalled_in s.events) j page ≡ false
  none_has j = ⊎_elim (λ (own : j ≡ id). ap (λ (n : ℕ). has_page (journalled_in s.events) n page) own ∙ lacks) (λ (other : j ≢ id). free.others j other) (cases_eq j id)

  module _ (lists : AreListed s.page_size s.events works) (h : History) (told : s.desk.told ≡ Some h) (v : IsServing opened h s.events s.page_size s.count works) where
    end_is : w.end ≡ length (journal_of (present h) id)
    end_is = (v.ends id w found).at

    within : page ≤ length (pages_in opened s.events)
    within = let high = free.high in omega (arith, v.counted)

    long : 16 ≤ length (journal_of (present h) id)
    long = ⊎_elim
        (λ (bare : (journal_of (present h) id ≡ []) × ((p : ℕ) → is_some (journalled_in s.events id p) ≡ false)). absurd (let some : 0 < w.end = some_end lists in omega (arith, end_is, ap length bare.0)))
        (λ (j : IsJournal (file_page_size (present h)) (journal_of (present h) id) (journalled_in s.events id)).
        let head : 512 ≤ length (journal_of (present h) id) = written_long (file_page_size (present h)) j.saved (journal_of (present h) id) j.written in omega arith)
        (v.kept.work.journals id low)

    -- the bytes that were read are the page's
    pub old_is : old ≡ file_page (present h) page
    old_is =
        whole_page (present h) s.page_size page old v.sized free.low
        (kept_ends (present h) (pages_in opened s.events) (journalled_in s.events) (written_in s.events) v.kept.work page (page_in (pages_in opened s.events) page) (page_there (pages_in opened s.events) page free.low within)
        (none_written (present h) (pages_in opened s.events) (journalled_in s.events) (written_in s.events) v.kept.work page within none_has))
        (subst (λ (t : Option History). ReadsPage t s.page_size page old) told read)

    op_is : op ≡ Write (Journal id) (length (journal_of (present h) id)) (record_bytes (u32_at (journal_of (present h) id) 12) page (file_page (present h) page))
    op_is =
        ap (λ (at : ℕ). Write (Journal id) at text) end_is
        ∙ ap (Write (Journal id) (length (journal_of (present h) id)))
        (text_is ∙ ap (λ (n : ℕ). record_bytes n page old) (sym ((v.ends id w found).nonce (some_end lists))) ∙ ap (record_bytes (u32_at (journal_of (present h) id) 12) page) old_is)

    saves : Makes (present h) op (pages_in opened s.events) (pages_in opened s.events) (with_page id page old (journalled_in s.events)) (written_in s.events)
    saves =
        subst (λ (b : List ℕ). Makes (present h) op (pages_in opened s.events) (pages_in opened s.events) (with_page id page b (journalled_in s.events)) (written_in s.events)) (sym old_is)
        (subst (λ (o : Operation). Makes (present h) o (pages_in opened s.events) (pages_in opened s.events) (with_page id page (file_page (present h) page) (journalled_in s.events)) (written_in s.events)) (sym op_is)
        (record_works (present h) (pages_in opened s.events) (journalled_in s.events) (written_in s.events) v.kept.work id low page
        (λ none. let some : 0 < w.end = some_end lists in omega (arith, end_is, ap length none))
        free.low within none_has))

    journal_moved : IsMoved (present h) (present (added h op)) id (journal_of (present h) id ++ text)
    journal_moved =
        subst (λ (c : Content). IsMoved (present h) c id (journal_of (present h) id ++ text)) (sym (now_is h op))
        (subst (λ (at : ℕ). IsMoved (present h) (made_by (Write (Journal id) at text) (present h)) id (journal_of (present h) id ++ text)) (sym end_is) (moved_behind (present h) id text v.kept.work.files low))

    serves_now : (x : Work) → IsSavedIn s.page_size page old w x → IsServing opened (added h op) (Journalled id page old ∷ s.events) s.page_size s.count (slice_set works id x)
    serves_now x has =
        let kept = step_on opened s works order i h v op (with_page id page old (journalled_in s.events)) (written_in s.events) saves in
        record {
          kept = kept;
          seen = v.seen;
          counted = v.counted;
          sized = v.sized ∙ size_is (present h) (pages_in opened s.events) v.kept.work.recovers ∙ sym (size_is (present (added h op)) (pages_in opened s.events) kept.work.recovers);
          ends = replaced (IsEnd (present (added h op))) works id x (omega (arith, i.all))
              (λ j y other at.
              let was = v.ends j y at in
              record {
                at = was.at ∙ ap length (sym (journal_moved.others j other));
                nonce = λ some. ap (λ (journal : List ℕ). u32_at journal 12) (journal_moved.others j other) ∙ was.nonce some;
              })
              (record {
                at =
                    has.end
                    ∙ omega (arith, end_is, length-append (journal_of (present h) id) text, ap length text_is, record_long w.nonce page old, sized)
                    ∙ sym (ap length journal_moved.own);
                nonce = λ some.
                    ap (λ (journal : List ℕ). u32_at journal 12) journal_moved.own
                    ∙ nonce_stays (journal_of (present h) id) text long
                    ∙ (v.ends id w found).nonce (some_end lists)
                    ∙ sym has.nonce;
              });
        }

  pub save_refused : (desk : Desk) (stop : Stop) → Tries s.desk desk op (Err stop) → (at : ℕ) → at ≡ id → (y : Work) → y.due ≡ w.due → IsStored opened (record { desk = desk; events = s.events; page_size = s.page_size; count = s.count }) (slice_set works at y) order
  save_refused desk stop tried at same y due = subst (λ (n : ℕ). IsStored opened (record { desk = desk; events = s.events; page_size = s.page_size; count = s.count }) (slice_set works n y) order) (sym same) (refused_held opened s works order i desk op stop tried
      (λ lists h told v part left.
      part_kept opened s works order i h v op (with_page id page old (journalled_in s.events)) (written_in s.events) (saves lists h told v) part left)
      (slice_set works id y) (set_length works id y ∙ i.all) (subst (λ (n : ℕ). n ≤ order.room) (sym (due_same works id w y found due)) i.room))

  lists_saved : (x : Work) → IsSavedIn s.page_size page old w x → AreListed s.page_size s.events works → AreListed s.page_size (Journalled id page old ∷ s.events) (slice_set works id x)
  lists_saved x has lists = replaced (IsListed s.page_size (Journalled id page old ∷ s.events)) works id x (omega (arith, i.all))
      (λ j y other at.
      let was = lists j y at in
      let same = λ (p : ℕ). with_other_id id page old (journalled_in s.events) j p other in
      record {
        saved = λ p. was.saved p ∙ sym (same p);
        changed = λ p own. was.changed p (ap is_some (sym (same p)) ∙ own);
        own = was.own;
        begun = was.begun;
        due = was.due;
        out = was.out;
        sized = was.sized;
      })
      (let was = lists id w found in
      let absent : saved_at page w.saved ≡ None = was.saved page ∙ none_given (journalled_in s.events id page) (lacks) in
      record {
        saved = λ p.
            ⊎_elim
            (λ (here : p ≡ page).
            ap (λ (q : ℕ). saved_at q x.saved) here ∙ has.saved.here
            ∙ sym (ap (with_page id page old (journalled_in s.events) id) here ∙ with_at id page old (journalled_in s.events)))
            (λ (other : p ≢ page). has.saved.other p other ∙ was.saved p ∙ sym (with_other_page id page old (journalled_in s.events) id p other))
            (cases_eq p page);
        changed = λ p own.
            ⊎_elim
            (λ (here : p ≡ page).
            has.saved.changed p ∙ ap (λ (q : ℕ). changed_at q w.saved) here ∙ absent_changed page w.saved absent ∙ sym (free.fresh lacks) ∙ ap (λ (q : ℕ). is_some (written_in s.events id q)) (sym here))
            (λ (other : p ≢ page). has.saved.changed p ∙ was.changed p (ap is_some (sym (with_other_page id page old (journalled_in s.events) id p other)) ∙ own))
            (cases_eq p page);
        own = has.own ∙ was.own;
        begun = le_lt x.end (omega (arith, has.end)) ∙ sym begun;
        due = has.due ∙ was.due;
        out = has.out ∙ was.out;
        sized = λ p b at.
            ⊎_elim
            (λ (here : p ≡ page).
            let both : Some old ≡ Some b = sym (ap (λ (q : ℕ). saved_at q x.saved) here ∙ has.saved.here) ∙ at in
            let is : old ≡ b = cc in
            ap length (sym is) ∙ sized)
            (λ (other : p ≢ page). was.sized p b (sym (has.saved.other p other) ∙ at))
            (cases_eq p page);
      })
    where
      le_lt : (n : ℕ) → 0 < n → nat_lt 0 n ≡ true
      le_lt n some = grind (arith, nat_tests)

  pub save_done : (desk : Desk) → Does s.desk desk op → (x : Work) → IsSavedIn s.page_size page old w x → (at : ℕ) → at ≡ id → (now : List Event) → now ≡ Journalled id page old ∷ s.events
      → IsStored opened (record { desk = desk; events = now; page_size = s.page_size; count = s.count }) (slice_set works at x) order
  save_done desk does x has at same now is =
      subst (λ (es : List Event). IsStored opened (record { desk = desk; events = es; page_size = s.page_size; count = s.count }) (slice_set works at x) order) (sym is)
      (subst (λ (n : ℕ). IsStored opened (record { desk = desk; events = Journalled id page old ∷ s.events; page_size = s.page_size; count = s.count }) (slice_set works n x) order) (sym same)
      (done_held opened s works order i desk op does (Journalled id page old ∷ s.events) s.count (slice_set works id x) order (set_length works id x ∙ i.all) (subst (λ (n : ℕ). n ≤ order.room) (sym (due_same works id w x found has.due)) i.room) (order_on opened s works order i desk op does) refl (lists_saved x has)
      (λ lists h told v. serves_now lists h told v x has)))

  -- it was saved as it is after all commits, by a write behind the journal
  module _ (h : History) (told : s.desk.told ≡ Some h) (v : IsServing opened h s.events s.page_size s.count works) (lists : AreListed s.page_size s.events works) where
    own_at : page_at (pages_in opened s.events) page ≡ Some old
    own_at =
        let there : page_at (pages_in opened s.events) page ≡ Some (page_in (pages_in opened s.events) page) = page_there (pages_in opened s.events) page free.low (within lists h told v) in
        there ∙ ap (λ (b : List ℕ). Some b)
        (sym (v.kept.work.kept page (page_in (pages_in opened s.events) page) there (none_written (present h) (pages_in opened s.events) (journalled_in s.events) (written_in s.events) v.kept.work page (within lists h told v) none_has))
        ∙ sym (old_is lists h told v))

    own_op : op ≡ Write (Journal id) (length (journal_of (present h) id)) (record_bytes (u32_at (journal_of (present h) id) 12) page old)
    own_op = op_is lists h told v ∙ ap (λ (b : List ℕ). Write (Journal id) (length (journal_of (present h) id)) (record_bytes (u32_at (journal_of (present h) id) 12) page b)) (sym (old_is lists h told v))

  pub save_own : s.desk.stopped ≡ None → IfTold s.desk.told (λ h. page_at (pages_in opened s.events) page ≡ Some old)
  save_own going = by_told s.desk.told refl (served opened s works order i going)
    where
      by_told : (t : Option History) → s.desk.told ≡ t → IfTold t (λ h. IsServing opened h s.events s.page_size s.count works) → IfTold t (λ h. page_at (pages_in opened s.events) page ≡ Some old)
      by_told None e v = tt
      by_told (Some h) e v = own_at h e v (listed opened s works order i going)

  pub save_made : (desk : Desk) → Does s.desk desk op
      → IfTold s.desk.told (λ h. desk.told ≡ Some (grown h (Write (Journal id) (length (journal_of (present h) id)) (record_bytes (u32_at (journal_of (present h) id) 12) page old) ∷ [])))
  save_made desk does = by_told s.desk.told refl (served opened s works order i does.going) does.adds
    where
      by_told : (t : Option History) → s.desk.told ≡ t → IfTold t (λ h. IsServing opened h s.events s.page_size s.count works) → Adds t desk.told (op ∷ [])
          → IfTold t (λ h. desk.told ≡ Some (grown h (Write (Journal id) (length (journal_of (present h) id)) (record_bytes (u32_at (journal_of (present h) id) 12) page old) ∷ [])))
      by_told None e v adds = tt
      by_told (Some h) e v adds = adds ∙ ap (λ (o : Operation). Some (grown h (o ∷ []))) (own_op h e v (listed opened s works order i does.going))

-- whether a page is journalled, as the store has it
pub journalled_is : (page_size : ℕ) (events : List Event) (id : ℕ) (w : Work) → IsListed page_size events id w → (page : ℕ) (b : Bool) → b ≡ has_saved page w.saved → has_page (journalled_in events) id page ≡ b
journalled_is page_size events id w lists page b is = ap is_some (sym (lists.saved page)) ∙ saved_some page w.saved ∙ sym is
