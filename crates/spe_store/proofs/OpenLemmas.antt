-- A transaction opens its journal.
use Rattle.std.proofs.Common.{◌≡◌, ℕ, ◌<◌, ◌≤◌, ◌^◌, List, [], ◌∷◌, ◌++◌, length, refl, sym, ap, ◌∙◌, subst, arith, Bool, true, false, Some, Err}
use Rattle.std.specs.Prelude.{◌==◌, nat_lt, slice_get, slice_index_or, slice_set, if◌then◌else◌}
use Rattle.std.proofs.lemmas.Bool.{eq-eqb, ltb-false, ne_eqb}
use Rattle.std.proofs.lemmas.List.{append-nil, nil_from_length}
use Rattle.spe_model.specs.declared.file.FileNo.TheVariants.{Journal}
use Rattle.spe_model.specs.Big.{u32_at}
use Rattle.spe_model.specs.Content.{Content}
use Rattle.spe_model.specs.Journal.{has_head, head_bytes, head_page_size}
use Rattle.spe_model.specs.Recovery.{journal_of}
use Rattle.spe_model.specs.Trace.{History, Operation, made_by, present}
use Rattle.spe_model.specs.Trace.Operation.{Write}
use Rattle.spe_journal.proofs.HotLemmas.{head_long}
use Rattle.spe_journal.specs.declared.head.JournalKind.TheVariants as kind
use Rattle.spe_journal.specs.Kind.{kind_of}
use Rattle.spe_crash.proofs.TraceLemmas.{after-append}
use Rattle.spe_transactions.specs.Made.{Makes}
use Rattle.spe_transactions.proofs.JournalLemmas.{head_works}
use Rattle.spe_transactions.proofs.MovedLemmas.{IsMoved, moved_behind, moved_size}
use Rattle.spe_store.specs.declared.stop.Stop.{Stop}
use Rattle.spe_store.specs.declared.work.Work.{Work}
use Rattle.spe_store.specs.Desk.{Desk, Does, Tries}
use Rattle.spe_store.specs.Event.{Event, journalled_in, open_in, written_in}
use Rattle.spe_store.specs.Event.Event.{Opened as Opens}
use Rattle.spe_store.specs.Opened.{Opened}
use Rattle.spe_store.specs.Store.{AreListed, IsEnd, IsListed, IsServing, IsStored, Order, Store, pages_in}
use Rattle.spe_store.proofs.HeldLemmas.{added, done_held, due_same, order_on, part_kept, refused_held, replaced, step_on}
use Rattle.spe_store.proofs.ListLemmas.{read_at, set_length, there}

-- the content with one operation more
pub now_is : (h : History) (o : Operation) → present (added h o) ≡ made_by o (present h)
now_is h o = after-append h.first h.trace (o ∷ [])

pub none_end : (end : ℕ) → nat_lt 0 end ≡ false → end ≡ 0
none_end end e = let low : end ≤ 0 = ltb-false 0 end e in omega arith

-- a journal that is not open has no bytes
pub closed_bare : (opened : Opened) (h : History) (s : Store) (works : List Work) (id : ℕ) (w : Work) → AreListed s.page_size s.events works → IsServing opened h s.events s.page_size s.count works → slice_get works id ≡ Some w → open_in s.events id ≡ false
    → journal_of (present h) id ≡ []
closed_bare opened h s works id w lists v found shut =
    let none : w.end ≡ 0 = none_end w.end ((lists id w found).begun ∙ shut) in
    nil_from_length (journal_of (present h) id) (sym (v.ends id w found).at ∙ none)

-- the nonce that a head names
hot_nonce : (page_size : ℕ) (journal : List ℕ) (nonce : ℕ) → kind_of page_size (journal ++ []) ≡ kind.Hot nonce → u32_at journal 12 ≡ nonce
unfolding kind_of
hot_nonce page_size journal nonce said =
    ap (λ (bytes : List ℕ). u32_at bytes 12) (sym (append-nil journal))
    ∙ by_head (has_head (journal ++ [])) (head_page_size (journal ++ []) == page_size) said
  where
    by_head : (head same : Bool) → (if head then (if same then kind.Hot (u32_at (journal ++ []) 12) else kind.OtherSize (head_page_size (journal ++ []))) else kind.Cold) ≡ kind.Hot nonce → u32_at (journal ++ []) 12 ≡ nonce
    by_head true true e = cc
    by_head true false e = absurd cc
    by_head false same e = absurd cc

module _ (opened : Opened) (s : Store) (works : List Work) (order : Order) (i : IsStored opened s works order) (id : ℕ) (low : id < 16) (shut : open_in s.events id ≡ false) (nonce : ℕ) (small : nonce < 2 ^ 32) (said : kind_of s.page_size (head_bytes nonce s.count s.page_size ++ []) ≡ kind.Hot nonce)
    (w : Work) (found : slice_get works id ≡ Some w) where
  abbrev op : Operation
  op = Write (Journal id) 0 (head_bytes nonce s.count s.page_size)

  abbrev fresh : Work
  fresh = record w { nonce = nonce; end = 512 }

  makes : (h : History) → AreListed s.page_size s.events works → (v : IsServing opened h s.events s.page_size s.count works) → Makes (present h) op (pages_in opened s.events) (pages_in opened s.events) (journalled_in s.events) (written_in s.events)
  makes h lists v =
      subst (λ (size : ℕ). Makes (present h) (Write (Journal id) 0 (head_bytes nonce s.count size)) (pages_in opened s.events) (pages_in opened s.events) (journalled_in s.events) (written_in s.events)) (sym v.sized)
      (head_works (present h) (pages_in opened s.events) (journalled_in s.events) (written_in s.events) v.kept.work id low nonce s.count small (closed_bare opened h s works id w lists v found shut))

  abbrev events : List Event
  events = Opens id ∷ s.events

  lists_now : AreListed s.page_size s.events works → AreListed s.page_size events (slice_set works id fresh)
  lists_now lists = replaced (IsListed s.page_size events) works id fresh (omega (arith, i.all))
      (λ j x other there.
      let was = lists j x there in
      record { saved = was.saved; changed = was.changed; own = was.own; begun = was.begun ∙ sym (ap (λ (b : Bool). if b then true else open_in s.events j) (ne_eqb j id other)); due = was.due; out = was.out; sized = was.sized })
      (let was = lists id w found in
      record { saved = was.saved; changed = was.changed; own = was.own; begun = sym (ap (λ (b : Bool). if b then true else open_in s.events id) (eq-eqb id id refl)); due = was.due; out = was.out; sized = was.sized })

  serves_now : AreListed s.page_size s.events works → (h : History) → s.desk.told ≡ Some h → (v : IsServing opened h s.events s.page_size s.count works) → IsServing opened (added h op) events s.page_size s.count (slice_set works id fresh)
  serves_now lists h told v =
      let head = head_bytes nonce s.count s.page_size in
      let none : journal_of (present h) id ≡ [] = closed_bare opened h s works id w lists v found shut in
      let m : IsMoved (present h) (made_by op (present h)) id head =
      subst (λ (at : ℕ). IsMoved (present h) (made_by (Write (Journal id) at head) (present h)) id head) (ap length none)
      (subst (IsMoved (present h) (made_by (Write (Journal id) (length (journal_of (present h) id)) head) (present h)) id) (ap (λ (j : List ℕ). j ++ head) none) (moved_behind (present h) id head v.kept.work.files low)) in
      let m_now : IsMoved (present h) (present (added h op)) id head = subst (λ (c : Content). IsMoved (present h) c id head) (sym (now_is h op)) m in
      record {
        kept = step_on opened s works order i h v op (journalled_in s.events) (written_in s.events) (makes h lists v);
        seen = v.seen;
        counted = v.counted;
        sized = v.sized ∙ sym (moved_size (present h) (present (added h op)) id head m_now);
        ends = replaced (IsEnd (present (added h op))) works id fresh (omega (arith, i.all))
            (λ j x other there.
            let was = v.ends j x there in
            record {
              at = was.at ∙ ap length (sym (m_now.others j other));
              nonce = λ begun. ap (λ (journal : List ℕ). u32_at journal 12) (m_now.others j other) ∙ was.nonce begun;
            })
            (record {
              at = sym (ap length m_now.own ∙ head_long nonce s.count s.page_size);
              nonce = λ begun. ap (λ (journal : List ℕ). u32_at journal 12) m_now.own ∙ hot_nonce s.page_size head nonce said;
            });
      }

  pub open_refused : (desk : Desk) (stop : Stop) → Tries s.desk desk op (Err stop) → IsStored opened (record { desk = desk; events = s.events; page_size = s.page_size; count = s.count }) works order
  open_refused desk stop tried = refused_held opened s works order i desk op stop tried
      (λ lists h told v part left. part_kept opened s works order i h v op (journalled_in s.events) (written_in s.events) (makes h lists v) part left)
      works i.all i.room

  pub open_done : (desk : Desk) → Does s.desk desk op → IsStored opened (record { desk = desk; events = events; page_size = s.page_size; count = s.count }) (slice_set works id fresh) order
  open_done desk does = done_held opened s works order i desk op does events s.count (slice_set works id fresh) order (set_length works id fresh ∙ i.all) (subst (λ (n : ℕ). n ≤ order.room) (sym (due_same works id w fresh found refl)) i.room) (order_on opened s works order i desk op does) refl lists_now serves_now

-- what was written is a head
pub record IsHead (s : Store) (nonce : ℕ) (bytes : List ℕ) : Type 0 where
  pub small : nonce < 2 ^ 32
  pub is : bytes ≡ head_bytes nonce s.count s.page_size
  pub said : kind_of s.page_size (bytes ++ []) ≡ kind.Hot nonce

module _ (opened : Opened) (s : Store) (works : List Work) (order : Order) (i : IsStored opened s works order) (id : ℕ) (low : id < 16) (shut : open_in s.events id ≡ false) (nonce : ℕ) (bytes : List ℕ) (head : IsHead s nonce bytes) (desk : Desk) where
  said_head : kind_of s.page_size (head_bytes nonce s.count s.page_size ++ []) ≡ kind.Hot nonce
  said_head = subst (λ (b : List ℕ). kind_of s.page_size (b ++ []) ≡ kind.Hot nonce) head.is head.said

  pub opened_refused : (stop : Stop) → Tries s.desk desk (Write (Journal id) 0 bytes) (Err stop) → IsStored opened (record { desk = desk; events = s.events; page_size = s.page_size; count = s.count }) works order
  opened_refused stop tried =
      let w = there works id (omega (arith, i.all)) in
      open_refused opened s works order i id low shut nonce head.small said_head w.0 w.1 desk stop (subst (λ (b : List ℕ). Tries s.desk desk (Write (Journal id) 0 b) (Err stop)) head.is tried)

  pub opened_done : Does s.desk desk (Write (Journal id) 0 bytes) → (at : ℕ) → at ≡ id → (w : Work) → w ≡ slice_index_or works at w → (events_now : List Event) → events_now ≡ Opens id ∷ s.events
      → IsStored opened (record { desk = desk; events = events_now; page_size = s.page_size; count = s.count }) (slice_set works at (record w { nonce = nonce; end = 512 })) order
  opened_done does at same w value events_now is =
      subst (λ (es : List Event). IsStored opened (record { desk = desk; events = es; page_size = s.page_size; count = s.count }) (slice_set works at (record w { nonce = nonce; end = 512 })) order) (sym is)
      (subst (λ (n : ℕ). IsStored opened (record { desk = desk; events = Opens id ∷ s.events; page_size = s.page_size; count = s.count }) (slice_set works n (record w { nonce = nonce; end = 512 })) order) (sym same)
      (open_done opened s works order i id low shut nonce head.small said_head w (read_at works at id w same (omega (arith, i.all)) value) desk (subst (λ (b : List ℕ). Does s.desk desk (Write (Journal id) 0 b)) head.is does)))
