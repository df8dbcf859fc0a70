-- Writing saved pages back.
use Rattle.std.proofs.Common.{◌≡◌, ◌≢◌, ℕ, zero, suc, ◌+◌, ◌-◌, ◌*◌, List, [], ◌∷◌, ◌++◌, drop, map, refl, arith, sym, ap, subst, ◌∙◌, Bool, true, false, cond, Option, Some, None, append_assoc, length-append, ⊎_elim}
use Rattle.std.specs.Prelude.{◌==◌, ◌&&◌, not, slice_get, slice_set, unwrap_or}
use Rattle.std.proofs.lemmas.Bool.{cases_Bool}
use Rattle.std.proofs.lemmas.Bool.Decides.{nat_tests}
use Rattle.std.proofs.lemmas.List.{append-nil, map-append}
use Rattle.spe_model.specs.declared.file.FileNo.{FileNo}
use Rattle.spe_model.specs.declared.file.FileNo.TheVariants.{Database, Journal}
use Rattle.spe_model.specs.Content.{Content, bytes_of, with_file, place_of, flatten}
use Rattle.spe_model.specs.Journal.{Saved}
use Rattle.spe_model.specs.Recovery.{journal_of}
use Rattle.spe_model.specs.Trace.{Operation, History, present, after, made_by}
use Rattle.spe_model.specs.Trace.Operation.{Write, Cut}
use Rattle.spe_disk.specs.Told.{Adds}
use Rattle.spe_model.specs.Rollback.{write_of, without, firsts, restores}
use Rattle.spe_recover.specs.Restored.{Holders, is_due, due_after, Restored, Stays}
use Rattle.spe_disk.specs.Added.{IfTold}

-- operations one after the other
pub after-append : (content : Content) (xs ys : List Operation) → after content (xs ++ ys) ≡ after (after content xs) ys
after-append content [] ys = refl
after-append content (x ∷ xs) ys = after-append (made_by x content) xs ys

pub Adds-nothing : (told : Option History) → Adds told told []
Adds-nothing None = refl
Adds-nothing (Some h) = ap (λ (trace : List Operation). Some (record { first = h.first; trace = trace })) (sym (append-nil h.trace))

pub Adds-append : (old middle new : Option History) (xs ys : List Operation) → Adds old middle xs → Adds middle new ys → Adds old new (xs ++ ys)
Adds-append None None new xs ys a b = b
Adds-append None (Some h) new xs ys a b = absurd cc
Adds-append (Some h) None new xs ys a b = absurd cc
Adds-append (Some h) (Some k) new xs ys a b =
    let same : k ≡ record { first = h.first; trace = h.trace ++ xs } = cc in
    b ∙ ap (λ (k : History). Some (record { first = k.first; trace = k.trace ++ ys })) same
    ∙ ap (λ (trace : List Operation). Some (record { first = h.first; trace = trace })) (append_assoc h.trace xs ys)

pub get_set : {X : Type 0} (xs : List X) (i j : ℕ) (x : X) → i ≢ j → slice_get (slice_set xs i x) j ≡ slice_get xs j
get_set [] i j x apart = refl
get_set (y ∷ ys) zero zero x apart = absurd (apart refl)
get_set (y ∷ ys) zero (suc j) x apart = refl
get_set (y ∷ ys) (suc i) zero x apart = refl
get_set (y ∷ ys) (suc i) (suc j) x apart = get_set ys i j x (λ same. apart (ap suc same))

-- another file stays
pub file_stays : (content : Content) (file other : FileNo) (bytes : List ℕ) → place_of file ≢ place_of other → bytes_of (with_file content file bytes) other ≡ bytes_of content other
file_stays content file other bytes apart =
    ap (λ (f : Option (Option (List ℕ))). unwrap_or (flatten f) []) (get_set content (place_of file) (place_of other) (Some bytes) apart)

write_stays : (content : Content) (at : ℕ) (bytes : List ℕ) (id : ℕ) → journal_of (made_by (Write Database at bytes) content) id ≡ journal_of content id
write_stays content at [] id = refl
write_stays content at (b ∷ bs) id = file_stays content Database (Journal id) _ (omega arith)

-- a page that is written back leaves the journals
pub page_stays : (page_size : ℕ) (s : Saved) (content : Content) (id : ℕ) → journal_of (made_by (write_of page_size s) content) id ≡ journal_of content id
page_stays page_size s content id = by_page (s.page == 1)
  where
    by_page : (b : Bool) → journal_of (made_by (cond b (Write Database 24 (drop 24 s.content)) (Write Database ((s.page - 1) * page_size) s.content)) content) id ≡ journal_of content id
    by_page true = write_stays content 24 (drop 24 s.content) id
    by_page false = write_stays content ((s.page - 1) * page_size) s.content id

pub present_after : (h : History) (ops : List Operation) (k : History) → k ≡ record { first = h.first; trace = h.trace ++ ops } → present k ≡ after (present h) ops
present_after h ops k is = ap present is ∙ after-append h.first h.trace ops

pub told_stays : (old new : Option History) (op : Operation) → ((content : Content) (id : ℕ) → journal_of (made_by op content) id ≡ journal_of content id)
    → Adds old new (op ∷ []) → Stays old new
told_stays None new op keeps adds = adds
told_stays (Some h) None op keeps adds = absurd cc
told_stays (Some h) (Some k) op keeps adds = λ id.
    let same : k ≡ record { first = h.first; trace = h.trace ++ op ∷ [] } = cc in
    ap (λ (c : Content). journal_of c id) (present_after h (op ∷ []) k same) ∙ keeps (present h) id

pub Stays-same : (told : Option History) → Stays told told
Stays-same None = refl
Stays-same (Some h) = λ id. refl

pub Stays-trans : (old middle new : Option History) → Stays old middle → Stays middle new → Stays old new
Stays-trans None None new a b = b
Stays-trans None (Some k) new a b = absurd cc
Stays-trans (Some h) None new a b = absurd a
Stays-trans (Some h) (Some k) None a b = absurd b
Stays-trans (Some h) (Some k) (Some l) a b = λ id. b id ∙ a id

-- what is so of a journal now was so at first
pub told_before : (old now : Option History) (id : ℕ) (P : List ℕ → Type 0) → Stays old now → IfTold now (λ content. P (journal_of content id)) → IfTold old (λ content. P (journal_of content id))
told_before None now id P stays holds = tt
told_before (Some h) None id P stays holds = absurd stays
told_before (Some h) (Some k) id P stays holds = subst P (stays id) holds

-- what was so of a journal is so of it now
pub told_now : (old now : Option History) (id : ℕ) (P : List ℕ → Type 0) → Stays old now → IfTold old (λ content. P (journal_of content id)) → IfTold now (λ content. P (journal_of content id))
told_now None None id P stays holds = tt
told_now None (Some k) id P stays holds = absurd cc
told_now (Some h) None id P stays holds = absurd stays
told_now (Some h) (Some k) id P stays holds = subst P (sym (stays id)) holds

-- the pages that are due, once some records were written back
firsts-same : (f g : ℕ → Bool) (saved : List Saved) → ((p : ℕ) → f p ≡ g p) → firsts f saved ≡ firsts g saved
firsts-same f g [] same = refl
firsts-same f g (s ∷ ss) same =
    rw (same s.page)
    (ap (λ (more : List Saved). cond (g s.page) (s ∷ more) (firsts f ss)) (firsts-same (without f s.page) (without g s.page) ss (λ p. ap (λ (b : Bool). b && not (s.page == p)) (same p)))
    ∙ ap (λ (more : List Saved). cond (g s.page) (s ∷ firsts (without g s.page) ss) more) (firsts-same f g ss same))

due_after-same : (f g : ℕ → Bool) (saved : List Saved) → ((p : ℕ) → f p ≡ g p) → (p : ℕ) → due_after f saved p ≡ due_after g saved p
due_after-same f g [] same p = same p
due_after-same f g (s ∷ ss) same p = due_after-same (without f s.page) (without g s.page) ss (λ q. ap (λ (b : Bool). b && not (s.page == q)) (same q)) p

without_absent : (due : ℕ → Bool) (page p : ℕ) → due page ≡ false → due p ≡ without due page p
without_absent due page p absent = ⊎_elim
    (λ (here : (page == p) ≡ true). let same : page ≡ p = grind (arith, nat_tests) in rw (← same, absent) refl)
    (λ (other : (page == p) ≡ false). rw other (and_true (due p)))
    (cases_Bool (page == p))
  where
    and_true : (b : Bool) → b ≡ (b && true)
    and_true true = refl
    and_true false = refl

firsts-append : (due : ℕ → Bool) (xs ys : List Saved) → firsts due (xs ++ ys) ≡ firsts due xs ++ firsts (due_after due xs) ys
firsts-append due [] ys = refl
firsts-append due (s ∷ ss) ys = ⊎_elim
    (λ (is : due s.page ≡ true). rw is (ap (λ (more : List Saved). s ∷ more) (firsts-append (without due s.page) ss ys)))
    (λ (absent : due s.page ≡ false).
    rw absent
    (firsts-append due ss ys
    ∙ ap (λ (more : List Saved). firsts due ss ++ more)
    (firsts-same (due_after due ss) (due_after (without due s.page) ss) ys (due_after-same due (without due s.page) ss (λ p. without_absent due s.page p absent)))))
    (cases_Bool (due s.page))

due_after-append : (due : ℕ → Bool) (xs ys : List Saved) (p : ℕ) → due_after due (xs ++ ys) p ≡ due_after (due_after due xs) ys p
due_after-append due [] ys p = refl
due_after-append due (s ∷ ss) ys p = due_after-append (without due s.page) ss ys p

pub Restored-nothing : (page_size pages : ℕ) (told : Option History) (holders : Holders) → Restored page_size pages [] told told holders holders 0
Restored-nothing page_size pages told holders = record { adds = Adds-nothing told; count = refl; due = λ p. refl }

-- the writes of some records and of those behind them
pub restores-parts : (page_size pages : ℕ) (xs ys : List Saved) (before : Holders)
    → restores page_size (is_due before pages) (xs ++ ys) ≡ restores page_size (is_due before pages) xs ++ restores page_size (due_after (is_due before pages) xs) ys
restores-parts page_size pages xs ys before =
    ap (map (write_of page_size)) (firsts-append (is_due before pages) xs ys)
    ∙ map-append (write_of page_size) (firsts (is_due before pages) xs) (firsts (due_after (is_due before pages) xs) ys)

pub restores-append : (page_size pages : ℕ) (xs ys : List Saved) (before between : Holders) → ((p : ℕ) → is_due between pages p ≡ due_after (is_due before pages) xs p)
    → restores page_size (is_due before pages) (xs ++ ys) ≡ restores page_size (is_due before pages) xs ++ restores page_size (is_due between pages) ys
restores-append page_size pages xs ys before between due =
    let next : restores page_size (is_due between pages) ys ≡ restores page_size (due_after (is_due before pages) xs) ys =
    ap (map (write_of page_size)) (firsts-same (is_due between pages) (due_after (is_due before pages) xs) ys due) in
    restores-parts page_size pages xs ys before ∙ ap (λ (ops : List Operation). restores page_size (is_due before pages) xs ++ ops) (sym next)

pub Restored-append : (page_size pages : ℕ) (xs ys : List Saved) (first middle last : Option History) (before between now : Holders) (made more : ℕ)
    → Restored page_size pages xs first middle before between made → Restored page_size pages ys middle last between now more
    → Restored page_size pages (xs ++ ys) first last before now (made + more)
Restored-append page_size pages xs ys first middle last before between now made more a b =
    let split : restores page_size (is_due before pages) (xs ++ ys) ≡ restores page_size (is_due before pages) xs ++ restores page_size (is_due between pages) ys =
    restores-append page_size pages xs ys before between a.due in
    record {
      adds = subst (Adds first last) (sym split) (Adds-append first middle last _ _ a.adds b.adds);
      count = rw split (rw (length-append (restores page_size (is_due before pages) xs) (restores page_size (is_due between pages) ys)) (omega (arith, a.count, b.count)));
      due = λ p.
          b.due p ∙ due_after-same (is_due between pages) (due_after (is_due before pages) xs) ys a.due p ∙ sym (due_after-append (is_due before pages) xs ys p);
    }

pub file_cut_stays : (end : ℕ) (content : Content) (id : ℕ) → journal_of (made_by (Cut Database end) content) id ≡ journal_of content id
file_cut_stays end content id = file_stays content Database (Journal id) _ (omega arith)
