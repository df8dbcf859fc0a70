-- A transaction commits.
use Rattle.std.proofs.Common.{◌≡◌, ℕ, suc, ◌+◌, ◌-◌, ◌^◌, ◌<◌, ◌≤◌, List, [], ◌∷◌, ◌++◌, length, take, All, refl, sym, ap, ◌∙◌, subst, arith, Bool, true, false, Option, Some, None, Ok, Err, ⊎_elim, inl, inr, length-append}
use Rattle.std.specs.Prelude.{◌⊎◌, nat_lt, slice_get, slice_set, unwrap_or, ◌==◌, if◌then◌else◌}
use Rattle.std.specs.Option.{option_map}
use Rattle.std.proofs.lemmas.Bool.{cases_Bool, cases_eq, eq-eqb, ne_eqb}
use Rattle.std.proofs.lemmas.List.Elements.{All-head, All-nil, All-push, All-tail, All-weaker}
use Rattle.spe_model.specs.declared.commit.Commit as model
use Rattle.spe_model.specs.Header.{fields, is_size_valid}
use Rattle.spe_model.specs.Justified.{Justified}
use Rattle.spe_model.specs.Paging.{Given, PageMap, lay}
use Rattle.spe_model.specs.Recovery.{file_page_size, journal_of}
use Rattle.spe_model.specs.Rollback.{cut_of}
use Rattle.spe_model.specs.Settled.{page_in}
use Rattle.spe_model.specs.Trace.{History, IsTorn, Operation, present}
use Rattle.spe_disk.specs.Told.{Adds}
use Rattle.spe_crash.proofs.NumbersLemmas.{pages_to-length}
use Rattle.spe_crash.proofs.PagesLemmas.{opened as opened_pages, some_pages}
use Rattle.spe_transactions.specs.Commits.{Commit, laid_by}
use Rattle.spe_transactions.specs.Growth.{CanCommit}
use Rattle.spe_transactions.specs.Kept.{WorkKept}
use Rattle.spe_transactions.specs.Pages.{MayCommit, laid_pages, named_count, page_at}
use Rattle.spe_transactions.specs.Work.{has_page, without_id}
use Rattle.spe_transactions.proofs.CommitsLemmas.{after_commit}
use Rattle.spe_transactions.proofs.CutWorkLemmas.{commit_leaves}
use Rattle.spe_transactions.proofs.GrowthLemmas.{bare_end_kept, end_kept}
use Rattle.spe_transactions.proofs.WorkLemmas.{count_named}
use Rattle.spe_store.specs.declared.log.Log.{Log}
use Rattle.spe_store.specs.declared.stop.Stop.{Stop}
use Rattle.spe_store.specs.declared.work.Work.{Work}
use Rattle.spe_store.specs.Call.{CutsIf, LeavesSeen, MayEnd}
use Rattle.spe_store.specs.Pass.{OthersStay}
use Rattle.spe_store.specs.Desk.{Breaks, Counts, Desk, Does, TriesIf}
use Rattle.spe_store.specs.Event.{Event, entries_in, journalled_in, lives_in, open_in, seen_in, written_in}
use Rattle.spe_store.specs.Event.Event.{Broken, Committed}
use Rattle.spe_store.specs.Opened.{Opened}
use Rattle.spe_store.specs.Served.{AreLeft, Entry, Says, asked_of, commit_of, commits_of, pages_of, rows_from}
use Rattle.spe_store.specs.Store.{AreListed, AreSeen, IfTold, IsOrder, IsServing, IsStored, NeverFall, Order, Store, pages_in}
use Rattle.spe_store.specs.Work.{HasEnded}
use Rattle.spe_store.proofs.EndLemmas.{bare_ends_now, bare_journal, committing, end_done, ended_ends, ended_size}
use Rattle.spe_store.proofs.HeldLemmas.{added, broke_held, due_less, due_some, listed, order_later}
use Rattle.spe_store.proofs.ServedLemmas.{commits_more, says_last, work_more}

-- how many operations were made
counted_ops : (told : Option History) (stopped : Option ℕ) (ops : ℕ) (h : History) → Counts told stopped ops → told ≡ Some h → stopped ≡ None → ops ≡ length h.trace
counted_ops told stopped ops h counts is going = subst (λ (x : Option ℕ). Counts (Some h) x ops) going (subst (λ (t : Option History). Counts t stopped ops) is counts)

adds_at : (told now : Option History) (h : History) (o : Operation) → told ≡ Some h → Adds told now (o ∷ []) → now ≡ Some (added h o)
adds_at told now h o is adds = subst (λ (t : Option History). Adds t now (o ∷ [])) is adds

not_more : (h : History) (part : Operation) → Some h ≡ Some (added h part) → ⊥
not_more h part both =
    let same : h ≡ added h part = cc in
    let long : length h.trace ≡ length h.trace + 1 = ap (λ (g : History). length g.trace) same ∙ length-append h.trace (part ∷ []) in
    absurd (omega (arith, long))

rows_more : (n : ℕ) (es : List Entry) (e : Entry) → rows_from n (es ++ e ∷ []) ≡ rows_from n es ++ record { client = e.log.client; tx = e.log.tx; number = n + length es; ops = e.ops } ∷ []
rows_more n [] e = let same : n ≡ n + 0 = omega arith in ap (λ (k : ℕ). record { client = e.log.client; tx = e.log.tx; number = k; ops = e.ops } ∷ []) same
rows_more n (x ∷ xs) e =
    let same : n + 1 + length xs ≡ n + suc (length xs) = omega arith in
    ap (λ rows. record { client = x.log.client; tx = x.log.tx; number = n; ops = x.ops } ∷ rows)
    (rows_more (n + 1) xs e ∙ ap (λ (k : ℕ). rows_from (n + 1) xs ++ record { client = e.log.client; tx = e.log.tx; number = k; ops = e.ops } ∷ []) same)

pub rows_long : (n : ℕ) (es : List Entry) → length (rows_from n es) ≡ length es
rows_long n [] = refl
rows_long n (x ∷ xs) = ap suc (rows_long (n + 1) xs)

never_fall : (rows : List model.Commit) (last : model.Commit) → NeverFall rows → All (λ (c : model.Commit). c.ops ≤ last.ops) rows → NeverFall (rows ++ last ∷ [])
never_fall [] last sorted low = (All-nil (λ (d : model.Commit). last.ops ≤ d.ops), tt)
never_fall (c ∷ cs) last sorted low = (All-push (λ (d : model.Commit). c.ops ≤ d.ops) cs last sorted.0 (All-head (λ (x : model.Commit). x.ops ≤ last.ops) c cs low), never_fall cs last sorted.1 (All-tail (λ (x : model.Commit). x.ops ≤ last.ops) c cs low))

-- the list of commits as it is handed on, with one entry more
order_more : (es : List Entry) (e : Entry) (ops : ℕ) (order list : Order) → IsOrder es ops order → e.ops ≡ ops
    → list.rows ≡ order.rows ++ record { client = e.log.client; tx = e.log.tx; number = length order.rows + 1; ops = ops } ∷ [] → IsOrder (es ++ e ∷ []) ops list
order_more es e ops order list is now rows =
    let last : model.Commit = record { client = e.log.client; tx = e.log.tx; number = length order.rows + 1; ops = ops } in
    let number : length order.rows + 1 ≡ 1 + length es = let long : length order.rows ≡ length es = ap length is.rows ∙ rows_long 1 es in omega (arith, long) in
    record {
      rows =
          rows ∙ ap (λ rs. rs ++ record { client = e.log.client; tx = e.log.tx; number = length order.rows + 1; ops = ops } ∷ []) is.rows
          ∙ ap (λ (k : ℕ). rows_from 1 es ++ record { client = e.log.client; tx = e.log.tx; number = k; ops = ops } ∷ []) number
          ∙ ap (λ (k : ℕ). rows_from 1 es ++ record { client = e.log.client; tx = e.log.tx; number = 1 + length es; ops = k } ∷ []) (sym now)
          ∙ sym (rows_more 1 es e);
      ended = subst (All (λ (c : model.Commit). c.ops ≤ ops)) (sym rows) (All-push (λ (c : model.Commit). c.ops ≤ ops) order.rows last is.ended (omega arith));
      sorted = subst NeverFall (sym rows) (never_fall order.rows last is.sorted is.ended);
    }

module _ (opened : Opened) (s : Store) (works : List Work) (order : Order) (i : IsStored opened s works order) (id : ℕ) (low : id < 16) (may : MayEnd opened s id) (session : ℕ) (log : Log)
    (right : Justified opened.read (asked_of log) (seen_in s.events id) (written_in s.events id)) (w : Work) (found : slice_get works id ≡ Some w) (desk : Desk) where
  abbrev es : List Entry
  es = entries_in s.events

  abbrev pages : List (List ℕ)
  pages = pages_in opened s.events

  abbrev one : ℕ → Entry
  one ops = record { log = log; session = session; ops = ops; wrote = written_in s.events id }

  module _ (h : History) (told : s.desk.told ≡ Some h) (v : IsServing opened h s.events s.page_size s.count works) where
    may_at : MayCommit pages (written_in s.events id) (file_page_size (present h))
    may_at = subst (MayCommit pages (written_in s.events id)) v.sized (subst (λ (t : Option History). IfTold t (λ g. MayCommit pages (written_in s.events id) s.page_size)) told may)

    some : 1 ≤ length pages
    some = some_pages (present h) pages (opened_pages (present h) pages v.kept.work.recovers)

    can : (ops : ℕ) → CanCommit (Says opened (es ++ one ops ∷ [])) opened.pages h (commits_of es) (written_in s.events) id
    can ops = record {
      low = low;
      may = may_at;
      meets = says_last opened es (one ops) h (journalled_in s.events) (written_in s.events) v.kept id (file_page_size (present h)) (seen_in s.events id) may_at right (v.seen id) some;
    }

    more : (ops : ℕ) → WorkKept (Says opened (es ++ one ops ∷ [])) opened.pages h (commits_of es) (journalled_in s.events) (written_in s.events)
    more ops = work_more opened es (one ops) h (journalled_in s.events) (written_in s.events) v.kept

    -- the pages after one commit more
    new_pages : (ops : ℕ) → pages_of opened (es ++ one ops ∷ []) ≡ laid_pages pages (written_in s.events id)
    new_pages ops = ap (laid_by opened.pages) (commits_more es (one ops)) ∙ (after_commit opened.pages (commits_of es) (commit_of (one ops))).1

    cut_kept : (ops : ℕ) → ops ≡ length h.trace + 1
        → WorkKept (Says opened (es ++ one ops ∷ [])) opened.pages (added h (cut_of id)) (commits_of (es ++ one ops ∷ [])) (without_id id (journalled_in s.events)) (without_id id (written_in s.events))
    cut_kept ops made =
        subst (λ (cs : List Commit). WorkKept (Says opened (es ++ one ops ∷ [])) opened.pages (added h (cut_of id)) cs (without_id id (journalled_in s.events)) (without_id id (written_in s.events)))
        (ap (λ (n : ℕ). commits_of es ++ record { wrote = written_in s.events id; ops = n } ∷ []) (sym made) ∙ sym (commits_more es (one ops)))
        (end_kept (Says opened (es ++ one ops ∷ [])) opened.pages h (commits_of es) (journalled_in s.events) (written_in s.events) (more ops) id (can ops))

    bare_kept : (ops : ℕ) → ops ≡ length h.trace → journal_of (present h) id ≡ []
        → WorkKept (Says opened (es ++ one ops ∷ [])) opened.pages h (commits_of (es ++ one ops ∷ [])) (without_id id (journalled_in s.events)) (without_id id (written_in s.events))
    bare_kept ops made none =
        subst (λ (cs : List Commit). WorkKept (Says opened (es ++ one ops ∷ [])) opened.pages h cs (without_id id (journalled_in s.events)) (without_id id (written_in s.events)))
        (ap (λ (n : ℕ). commits_of es ++ record { wrote = written_in s.events id; ops = n } ∷ []) (sym made) ∙ sym (commits_more es (one ops)))
        (bare_end_kept (Says opened (es ++ one ops ∷ [])) opened.pages h (commits_of es) (journalled_in s.events) (written_in s.events) (more ops) id (can ops) none)

    -- a cut that failed was made, or was not
    broken_left : (ops : ℕ) → ops ≡ length h.trace + 1 → AreLeft opened (added h (cut_of id)) es (Some (one ops))
    broken_left ops made = inr (cut_kept ops made).stops

    new_count : w.own ≡ option_map named_count (written_in s.events id 1) → (ops : ℕ) → unwrap_or w.own s.count ≡ length (pages_of opened (es ++ one ops ∷ []))
    new_count own ops =
        ap (λ (o : Option ℕ). unwrap_or o s.count) own ∙ by_found (written_in s.events id 1) refl
        ∙ sym (ap length (new_pages ops) ∙ pages_to-length (lay (written_in s.events id) (page_in pages)) (named_count (lay (written_in s.events id) (page_in pages) 1)))
      where
        by_found : (o : Option (List ℕ)) → written_in s.events id 1 ≡ o → unwrap_or (option_map named_count o) s.count ≡ named_count (unwrap_or (written_in s.events id 1) (page_in pages 1))
        by_found None e =
            let first : unwrap_or (written_in s.events id 1) (page_in pages 1) ≡ page_in pages 1 = ap (λ (o : Option (List ℕ)). unwrap_or o (page_in pages 1)) e in
            v.counted ∙ sym (count_named (present h) pages v.kept.work.recovers (subst (λ (b : List ℕ). is_size_valid (fields (take 100 b)) ≡ true) first may_at.valid)) ∙ ap named_count (sym first)
        by_found (Some bytes) e = ap (λ (o : Option (List ℕ)). named_count (unwrap_or o (page_in pages 1))) (sym e)

    module _ (alone : LeavesSeen s id) where
      still_seen : (ops : ℕ) (j : ℕ) → AreSeen (pages_of opened (es ++ one ops ∷ [])) (seen_in (Committed id session ops log ∷ s.events) j)
      still_seen ops j p = subst (λ (ps : List (List ℕ)). All (λ bytes. page_at ps p ≡ Some bytes) (seen_in (Committed id session ops log ∷ s.events) j p)) (sym (new_pages ops)) (by_id (cases_eq j id))
        where
          by_page : has_page (written_in s.events) id p ≡ true ⊎ has_page (written_in s.events) id p ≡ false → (j ≡ id → ⊥) → All (λ bytes. page_at (laid_pages pages (written_in s.events id)) p ≡ Some bytes) (seen_in s.events j p)
          by_page split other = ⊎_elim
              (λ (has : has_page (written_in s.events) id p ≡ true). subst (All (λ bytes. page_at (laid_pages pages (written_in s.events id)) p ≡ Some bytes)) (sym (alone j p other has)) (All-nil (λ bytes. page_at (laid_pages pages (written_in s.events id)) p ≡ Some bytes)))
              (λ (lacks : has_page (written_in s.events) id p ≡ false).
              All-weaker (λ bytes. page_at pages p ≡ Some bytes) (λ bytes. page_at (laid_pages pages (written_in s.events id)) p ≡ Some bytes)
              (λ bytes was. commit_leaves (present h) pages (journalled_in s.events) (written_in s.events) v.kept.work id p bytes may_at was lacks) (seen_in s.events j p) (v.seen j p))
              split

          by_id : (j ≡ id) ⊎ (j ≡ id → ⊥) → All (λ bytes. page_at (laid_pages pages (written_in s.events id)) p ≡ Some bytes) (if j == id then [] else seen_in s.events j p)
          by_id split = ⊎_elim
              (λ (own : j ≡ id). rw (eq-eqb j id own) (All-nil (λ bytes. page_at (laid_pages pages (written_in s.events id)) p ≡ Some bytes)))
              (λ (other : j ≡ id → ⊥). rw (ne_eqb j id other) (by_page (cases_Bool (has_page (written_in s.events) id p)) other))
              split

  -- the cut failed: whether it was made is not known
  pub commit_broken : (n : ℕ) → Breaks s.desk desk (cut_of id) n → IsStored opened (record { desk = desk; events = Broken id session n log ∷ s.events; page_size = s.page_size; count = s.count }) works order
  commit_broken n b = broke_held opened s works order i desk (cut_of id) (Broken id session n log ∷ s.events) refl refl n b
      (λ h told v. inl v.kept.stops)
      (λ h told v part left now_told.
      ⊎_elim
      (λ (next : n ≡ s.desk.ops + 1).
      let whole : part ≡ cut_of id = ⊎_elim (λ (e : part ≡ cut_of id). e) (λ (torn : IsTorn (cut_of id) part). absurd torn) left in
      let ops : s.desk.ops ≡ length h.trace = counted_ops s.desk.told s.desk.stopped s.desk.ops h b.counted told b.going in
      subst (λ (o : Operation). AreLeft opened (added h o) es (Some (one n))) (sym whole) (broken_left h told v n (next ∙ ap (λ (k : ℕ). k + 1) ops)))
      (λ (last : (n ≡ s.desk.ops) × (s.desk.ops ≡ 2 ^ 64 - 1) × (desk.told ≡ s.desk.told)). absurd (not_more h part (sym told ∙ sym last.2 ∙ now_told)))
      b.number)
      works i.all i.room

  module _ (alone : LeavesSeen s id) (idle : Work) (is_idle : HasEnded w idle) (ops : ℕ) (now_is : ops ≡ desk.ops) (counts : Counts desk.told desk.stopped ops) (count : ℕ) (count_is : count ≡ unwrap_or w.own s.count)
      (lives : lives_in s.events id ≡ true) (list : Order) (room : order.room ≤ list.room + 1)
      (rows : list.rows ≡ order.rows ++ record { client = log.client; tx = log.tx; number = length order.rows + 1; ops = ops } ∷ []) where
    cut_serves : Does s.desk desk (cut_of id) → AreListed s.page_size s.events works → (h : History) → s.desk.told ≡ Some h → IsServing opened h s.events s.page_size s.count works
        → IsServing opened (added h (cut_of id)) (Committed id session ops log ∷ s.events) s.page_size count (slice_set works id idle)
    cut_serves does lists h told v =
        let end = committing s.events id session ops log in
        let now : desk.told ≡ Some (added h (cut_of id)) = adds_at s.desk.told desk.told h (cut_of id) told does.adds in
        let made : ops ≡ length h.trace + 1 = counted_ops desk.told desk.stopped ops (added h (cut_of id)) counts now does.still ∙ length-append h.trace (cut_of id ∷ []) in
        record {
          kept = cut_kept h told v ops made;
          seen = still_seen h told v alone ops;
          counted = count_is ∙ new_count h told v (lists id w found).own ops;
          sized = ended_size opened s works order i id low w found idle is_idle (Committed id session ops log) end h v;
          ends = ended_ends opened s works order i id low w found idle is_idle (Committed id session ops log) end h v;
        }

    bare_serves : desk ≡ s.desk → s.desk.stopped ≡ None → nat_lt 0 w.end ≡ false → AreListed s.page_size s.events works → (h : History) → s.desk.told ≡ Some h → IsServing opened h s.events s.page_size s.count works
        → IsServing opened h (Committed id session ops log ∷ s.events) s.page_size count (slice_set works id idle)
    bare_serves same going none lists h told v =
        let end = committing s.events id session ops log in
        let bare : journal_of (present h) id ≡ [] = bare_journal opened s works order i id low w found idle is_idle (Committed id session ops log) end none h v in
        let made : ops ≡ length h.trace = counted_ops s.desk.told s.desk.stopped ops h (subst (λ (d : Desk). Counts d.told d.stopped ops) same counts) told going in
        record {
          kept = bare_kept h told v ops made bare;
          seen = still_seen h told v alone ops;
          counted = count_is ∙ new_count h told v (lists id w found).own ops;
          sized = v.sized;
          ends = bare_ends_now opened s works order i id low w found idle is_idle (Committed id session ops log) end none h v;
        }

    kept_order : (some : Bool) → TriesIf some s.desk desk (cut_of id) (Ok tt) → IsOrder es desk.ops order
    kept_order true t = order_later es s.desk.ops desk.ops order (omega (arith, t.ops)) i.ordered
    kept_order false t = subst (λ (d : Desk). IsOrder es d.ops order) (sym t.1) i.ordered

    going_at : (some : Bool) → TriesIf some s.desk desk (cut_of id) (Ok tt) → s.desk.stopped ≡ None
    going_at true t = t.going
    going_at false t = t.0

    pub commit_done : TriesIf (nat_lt 0 w.end) s.desk desk (cut_of id) (Ok tt) → (at : ℕ) → at ≡ id → (now : List Event) → now ≡ Committed id session ops log ∷ s.events
        → IsStored opened (record { desk = desk; events = now; page_size = s.page_size; count = count }) (slice_set works at idle) list
    commit_done tried at same now is =
        let going = going_at (nat_lt 0 w.end) tried in
        let due : w.due ≡ true = (listed opened s works order i going id w found).due ∙ lives in
        let less = due_less works id w idle found due is_idle.due in
        subst (λ (es : List Event). IsStored opened (record { desk = desk; events = es; page_size = s.page_size; count = count }) (slice_set works at idle) list) (sym is)
        (subst (λ (n : ℕ). IsStored opened (record { desk = desk; events = Committed id session ops log ∷ s.events; page_size = s.page_size; count = count }) (slice_set works n idle) list) (sym same)
        (end_done opened s works order i id low w found idle is_idle (Committed id session ops log) (committing s.events id session ops log) desk count list
        (let had = i.room in omega (arith, less))
        (subst (λ (k : ℕ). IsOrder (es ++ one ops ∷ []) k list) now_is
        (order_more es (one ops) ops order list (subst (λ (k : ℕ). IsOrder es k order) (sym now_is) (kept_order (nat_lt 0 w.end) tried)) refl rows))
        refl tried cut_serves bare_serves))

  -- there is room for the commit
  pub commit_room : s.desk.stopped ≡ None → lives_in s.events id ≡ true → 0 < order.room
  commit_room going lives =
      let due : w.due ≡ true = (listed opened s works order i going id w found).due ∙ lives in
      let some = due_some works id w found due in
      let room = i.room in
      omega arith

  -- what became of the cut
  pub breaks_at : (stop : Stop) → TriesIf (nat_lt 0 w.end) s.desk desk (cut_of id) (Err stop) → s.desk.stopped ≡ None → Breaks s.desk desk (cut_of id) stop.op
  breaks_at stop tried going = by_end (nat_lt 0 w.end) tried
    where
      none_some : s.desk.stopped ≡ Some stop.op → ⊥
      none_some e = let both : None ≡ Some stop.op = sym going ∙ e in cc

      by_end : (some : Bool) → TriesIf some s.desk desk (cut_of id) (Err stop) → Breaks s.desk desk (cut_of id) stop.op
      by_end true t = ⊎_elim (λ (before : (s.desk.stopped ≡ Some stop.op) × (desk ≡ s.desk)). absurd (none_some before.0)) (λ (b : Breaks s.desk desk (cut_of id) stop.op). b) t
      by_end false t = absurd (none_some t.0)

  pub cuts_if : TriesIf (nat_lt 0 w.end) s.desk desk (cut_of id) (Ok tt) → s.desk.stopped ≡ None → CutsIf (open_in s.events id) s.desk desk (cut_of id)
  cuts_if tried going = subst (λ (b : Bool). CutsIf b s.desk desk (cut_of id)) (listed opened s works order i going id w found).begun (by_end (nat_lt 0 w.end) tried)
    where
      by_end : (some : Bool) → TriesIf some s.desk desk (cut_of id) (Ok tt) → CutsIf some s.desk desk (cut_of id)
      by_end true t = t
      by_end false t = t

  pub number_is : (ops : ℕ) → length order.rows + 1 ≡ length (entries_in (Committed id session ops log ∷ s.events))
  number_is ops = let long : length order.rows ≡ length es = ap length i.ordered.rows ∙ rows_long 1 es in omega (arith, long, length-append es (one ops ∷ []))

-- what a commit leaves of the others
pub commit_others : (es : List Event) (id session ops : ℕ) (log : Log) → OthersStay (Committed id session ops log ∷ es) es id
commit_others es id session ops log j other =
    let no : (j == id) ≡ false = ne_eqb j id other in
    record {
      begun = ap (λ (b : Bool). if b then false else open_in es j) no;
      lives = ap (λ (b : Bool). if b then false else lives_in es j) no;
      journalled = ap {B = PageMap} (λ (b : Bool) (q : ℕ). if b then None else journalled_in es j q) no;
      written = ap {B = PageMap} (λ (b : Bool) (q : ℕ). if b then None else written_in es j q) no;
      seen = ap {B = Given} (λ (b : Bool) (q : ℕ). if b then [] else seen_in es j q) no;
    }
