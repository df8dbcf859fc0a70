-- Writing all back.
use Rattle.std.proofs.Common.{◌≡◌, ℕ, zero, suc, ◌+◌, ◌-◌, ◌*◌, List, [], ◌∷◌, ◌++◌, length, map, refl, arith, sym, ap, subst, ◌∙◌, Bool, true, false, cond, Option, Some, None, length-append, append_assoc}
use Rattle.std.proofs.lemmas.List.{append-nil}
use Rattle.std.specs.Prelude.{◌==◌, ◌&&◌, ◌||◌, not, nat_le, is_some}
use Rattle.std.specs.List.{list_any}
use Rattle.std.specs.Ordering.{nat_cmp}
use Rattle.std.specs.BTreeMap.{get}
use Rattle.spe_model.specs.declared.file.FileNo.TheVariants.{Database}
use Rattle.spe_model.specs.Content.{Content, bytes_of}
use Rattle.spe_model.specs.Journal.{Saved}
use Rattle.spe_model.specs.Recovery.{is_of, all_hot, file_page_size, journal_of}
use Rattle.spe_model.specs.Trace.{Operation, History, present}
use Rattle.spe_disk.specs.Told.{Adds}
use Rattle.spe_recover.specs.declared.survey.Survey.{Survey}
use Rattle.spe_recover.specs.Restored.{Holders, Restored, Stays, is_due}
use Rattle.spe_model.specs.Rollback.{any_length, cuts_from, file_cut, firsts, restores, rule_of, without, write_of}
use Rattle.spe_recover.specs.Rule.{Does}
use Rattle.spe_disk.specs.Added.{AddsCut, IfTold, MakesCut}
use Rattle.spe_recover.specs.Written.{IsReady, MakesCounted, all_of}
use Rattle.spe_recover.proofs.ClearLemmas.{cuts_from-next, cuts_from-none, cut_same}
use Rattle.spe_recover.proofs.CutLemmas.{HasLeft, left_first, left_next, left_broken}
use Rattle.spe_recover.proofs.HeldLemmas.{find_any}
use Rattle.spe_recover.proofs.RestoreLemmas.{Adds-nothing, Adds-append}
use Rattle.spe_recover.proofs.TurnLemmas.{hot_from}

-- only the pages that are saved count
firsts-among : (f g : ℕ → Bool) (saved : List Saved) → ((p : ℕ) → list_any (is_of p) saved ≡ true → f p ≡ g p) → firsts f saved ≡ firsts g saved
firsts-among f g [] same = refl
firsts-among f g (s ∷ ss) same =
    let later : (p : ℕ) → list_any (is_of p) ss ≡ true → list_any (is_of p) (s ∷ ss) ≡ true = λ p among. or_more (s.page == p) (list_any (is_of p) ss) among in
    let first : list_any (is_of s.page) (s ∷ ss) ≡ true = grind arith in
    rw (same s.page first)
    (ap (λ (more : List Saved). cond (g s.page) (s ∷ more) (firsts f ss))
    (firsts-among (without f s.page) (without g s.page) ss (λ p among. ap (λ (b : Bool). b && not (s.page == p)) (same p (later p among))))
    ∙ ap (λ (more : List Saved). cond (g s.page) (s ∷ firsts (without g s.page) ss) more) (firsts-among f g ss (λ p among. same p (later p among))))
  where
    or_more : (a b : Bool) → b ≡ true → (a || b) ≡ true
    or_more true b is = refl
    or_more false b is = is

cuts_same : (old now : Content) (id count : ℕ) → ((i : ℕ) → journal_of now i ≡ journal_of old i) → cuts_from now id count ≡ cuts_from old id count
cuts_same old now id zero same = cuts_from-none now id 0 refl ∙ sym (cuts_from-none old id 0 refl)
cuts_same old now id (suc n) same =
    let back : suc n - 1 ≡ n = omega arith in
    cuts_from-next now id (suc n) (omega arith)
    ∙ ap (λ (m : ℕ). cuts_from now id 1 ++ cuts_from now (id + 1) m) back
    ∙ ap (λ (ops : List Operation). ops ++ cuts_from now (id + 1) n) (cut_same old now id (same id))
    ∙ ap (λ (ops : List Operation). cuts_from old id 1 ++ ops) (cuts_same old now (id + 1) n same)
    ∙ ap (λ (m : ℕ). cuts_from old id 1 ++ cuts_from old (id + 1) m) (sym back)
    ∙ sym (cuts_from-next old id (suc n) (omega arith))

due_restores : (survey : Survey) (holders : Holders) (content : Content) → IsReady survey holders content
    → restores survey.page_size (is_due holders survey.pages) (hot_from content survey.page_size 0 16)
    ≡ restores (file_page_size content) (λ p. nat_le p survey.pages) (all_hot content)
due_restores survey holders content ready =
    ap (λ (n : ℕ). restores n (is_due holders survey.pages) (hot_from content n 0 16)) ready.paged
    ∙ ap (map (write_of (file_page_size content)))
    (firsts-among (is_due holders survey.pages) (λ p. nat_le p survey.pages) (all_hot content)
    (λ p among.
    let held : is_some (get nat_cmp holders p) ≡ true = ready.held p ∙ find_any p (all_hot content) ∙ among in
    rw held (and_true (nat_le p survey.pages))))
  where
    and_true : (b : Bool) → (b && true) ≡ b
    and_true true = refl
    and_true false = refl

file_same : (survey : Survey) (holders : Holders) (content : Content) (end : ℕ) → IsReady survey holders content → end ≡ survey.pages * survey.page_size
    → file_cut survey.size end ≡ file_cut (length (bytes_of content Database)) (survey.pages * file_page_size content)
file_same survey holders content end ready ends =
    ap (λ (n : ℕ). file_cut n end) ready.size
    ∙ ap (λ (n : ℕ). file_cut (length (bytes_of content Database)) n) (ends ∙ ap (λ (n : ℕ). survey.pages * n) ready.paged)

-- a disk that tells nothing
none_done : (first second new : Option History) (ops : Content → List Operation) (made : ℕ) → first ≡ None → Stays first second → Does second new ops made → new ≡ None
none_done None None new ops made untold still done = done
none_done None (Some l) new ops made untold still done = absurd cc
none_done (Some k) second new ops made untold still done = absurd cc

pub all_made : (told first second new : Option History) (survey : Survey) (before after : Holders) (restored cut cleared end : ℕ)
    → IfTold told (IsReady survey before)
    → IfTold told (λ content. Restored survey.page_size survey.pages (hot_from content survey.page_size 0 16) told first before after restored)
    → Stays told first → Does first second (λ content. file_cut survey.size end) cut → end ≡ survey.pages * survey.page_size → Stays first second
    → Does second new (λ content. cuts_from content 0 16) cleared
    → MakesCounted told new (λ content. all_of content survey.pages) (restored + cut + cleared)
all_made None first second new survey before after restored cut cleared end ready done stays cutting ends still clearing =
    none_done first second new (λ content. cuts_from content 0 16) cleared stays still clearing
all_made (Some h) None second new survey before after restored cut cleared end ready done stays cutting ends still clearing = absurd stays
all_made (Some h) (Some k) None new survey before after restored cut cleared end ready done stays cutting ends still clearing = absurd still
all_made (Some h) (Some k) (Some l) new survey before after restored cut cleared end ready done stays cutting ends still clearing =
    let content = present h in
    let writes = due_restores survey before content ready in
    let file = file_same survey before content end ready ends in
    let cuts : cuts_from (present l) 0 16 ≡ cuts_from content 0 16 = cuts_same content (present l) 0 16 (λ i. still i ∙ stays i) in
    let one : Adds (Some h) (Some k) (restores (file_page_size content) (λ p. nat_le p survey.pages) (all_hot content)) = subst (Adds (Some h) (Some k)) writes done.adds in
    let two : Adds (Some k) (Some l) (file_cut (length (bytes_of content Database)) (survey.pages * file_page_size content)) = subst (Adds (Some k) (Some l)) file cutting.0 in
    let three : Adds (Some l) new (cuts_from content 0 16) = subst (Adds (Some l) new) cuts clearing.0 in
    record {
      adds = Adds-append (Some h) (Some l) new _ _ (Adds-append (Some h) (Some k) (Some l) _ _ one two) three;
      count =
          omega (
            arith,
            done.count,
            ap length writes,
            cutting.1,
            ap length file,
            clearing.1,
            ap length cuts,
            length-append (restores (file_page_size content) (λ p. nat_le p survey.pages) (all_hot content) ++ file_cut (length (bytes_of content Database)) (survey.pages * file_page_size content)) (cuts_from content 0 16),
            length-append (restores (file_page_size content) (λ p. nat_le p survey.pages) (all_hot content)) (file_cut (length (bytes_of content Database)) (survey.pages * file_page_size content)),
          );
    }

-- the writes, the cut of the file, and those of the journals
writes_of : Content → ℕ → List Operation
writes_of content pages = restores (file_page_size content) (λ p. nat_le p pages) (all_hot content)

trim_of : Content → ℕ → List Operation
trim_of content pages = file_cut (length (bytes_of content Database)) (pages * file_page_size content)

all_parts : (content : Content) (pages : ℕ) → all_of content pages ≡ writes_of content pages ++ (trim_of content pages ++ cuts_from content 0 16)
unfolding writes_of trim_of
all_parts content pages = append_assoc (restores (file_page_size content) (λ p. nat_le p pages) (all_hot content)) (file_cut (length (bytes_of content Database)) (pages * file_page_size content)) (cuts_from content 0 16)

-- it broke off within the writes
pub restoring_stopped : (told new : Option History) (survey : Survey) (before : Holders) → IfTold told (IsReady survey before)
    → MakesCut told new (λ content. restores survey.page_size (is_due before survey.pages) (hot_from content survey.page_size 0 16))
    → MakesCut told new (λ content. all_of content survey.pages)
unfolding writes_of
restoring_stopped None new survey before ready cut = tt
restoring_stopped (Some h) new survey before ready cut =
    let content = present h in
    let all = all_of content survey.pages in
    left_broken (Some h) (Some h) new all all (writes_of content survey.pages) (trim_of content survey.pages ++ cuts_from content 0 16) (all_parts content survey.pages)
    (subst (AddsCut (Some h) new) (due_restores survey before content ready) cut) (left_first (Some h) all)

after_restoring : (h : History) (first : Option History) (survey : Survey) (before after : Holders) (restored : ℕ) → IsReady survey before (present h)
    → Restored survey.page_size survey.pages (hot_from (present h) survey.page_size 0 16) (Some h) first before after restored
    → HasLeft (Some h) first (all_of (present h) survey.pages) (trim_of (present h) survey.pages ++ cuts_from (present h) 0 16)
unfolding writes_of
after_restoring h first survey before after restored ready done =
    let content = present h in
    let all = all_of content survey.pages in
    left_next (Some h) (Some h) first all all (writes_of content survey.pages) _ (all_parts content survey.pages)
    (subst (Adds (Some h) first) (due_restores survey before content ready) done.adds) (left_first (Some h) all)

-- it broke off at the cut of the file
pub cutting_stopped : (told first new : Option History) (survey : Survey) (before after : Holders) (restored end : ℕ)
    → IfTold told (IsReady survey before)
    → IfTold told (λ content. Restored survey.page_size survey.pages (hot_from content survey.page_size 0 16) told first before after restored)
    → Stays told first → MakesCut first new (λ content. file_cut survey.size end) → end ≡ survey.pages * survey.page_size
    → MakesCut told new (λ content. all_of content survey.pages)
unfolding trim_of
cutting_stopped None first new survey before after restored end ready done stays cut ends = tt
cutting_stopped (Some h) None new survey before after restored end ready done stays cut ends = absurd stays
cutting_stopped (Some h) (Some k) new survey before after restored end ready done stays cut ends =
    let content = present h in
    left_broken (Some h) (Some k) new _ _ (trim_of content survey.pages) (cuts_from content 0 16) refl
    (subst (AddsCut (Some k) new) (file_same survey before content end ready ends) cut) (after_restoring h (Some k) survey before after restored ready done)

-- it broke off within the cuts of the journals
pub clearing_stopped : (told first second new : Option History) (survey : Survey) (before after : Holders) (restored cut end : ℕ)
    → IfTold told (IsReady survey before)
    → IfTold told (λ content. Restored survey.page_size survey.pages (hot_from content survey.page_size 0 16) told first before after restored)
    → Stays told first → Does first second (λ content. file_cut survey.size end) cut → end ≡ survey.pages * survey.page_size → Stays first second
    → MakesCut second new (λ content. cuts_from content 0 16)
    → MakesCut told new (λ content. all_of content survey.pages)
unfolding trim_of
clearing_stopped None first second new survey before after restored cut end ready done stays cutting ends still broken = tt
clearing_stopped (Some h) None second new survey before after restored cut end ready done stays cutting ends still broken = absurd stays
clearing_stopped (Some h) (Some k) None new survey before after restored cut end ready done stays cutting ends still broken = absurd still
clearing_stopped (Some h) (Some k) (Some l) new survey before after restored cut end ready done stays cutting ends still broken =
    let content = present h in
    let file : Adds (Some k) (Some l) (trim_of content survey.pages) = subst (Adds (Some k) (Some l)) (file_same survey before content end ready ends) cutting.0 in
    let cuts : cuts_from (present l) 0 16 ≡ cuts_from content 0 16 = cuts_same content (present l) 0 16 (λ i. still i ∙ stays i) in
    left_broken (Some h) (Some l) new _ _ (cuts_from content 0 16) [] (sym (append-nil (cuts_from content 0 16)))
    (subst (AddsCut (Some l) new) cuts broken)
    (left_next (Some h) (Some k) (Some l) _ _ (trim_of content survey.pages) (cuts_from content 0 16) refl file (after_restoring h (Some k) survey before after restored ready done))

pub none_made : (told : Option History) (pages : ℕ) → IfTold told (λ content. false ≡ any_length content 0 16) → MakesCounted told told (λ content. rule_of content pages) 0
unfolding rule_of
none_made None pages nothing = refl
none_made (Some h) pages nothing = rw (← nothing) (record { adds = Adds-nothing (Some h); count = refl })

pub some_made : (told new : Option History) (pages made : ℕ) → IfTold told (λ content. true ≡ any_length content 0 16)
    → MakesCounted told new (λ content. all_of content pages) made → MakesCounted told new (λ content. rule_of content pages) made
unfolding rule_of
some_made None new pages made some all = all
some_made (Some h) new pages made some all = rw (← some) all

pub some_stopped : (told new : Option History) (pages : ℕ) → IfTold told (λ content. true ≡ any_length content 0 16)
    → MakesCut told new (λ content. all_of content pages) → MakesCut told new (λ content. rule_of content pages)
unfolding rule_of
some_stopped None new pages some cut = tt
some_stopped (Some h) new pages some cut = rw (← some) cut
