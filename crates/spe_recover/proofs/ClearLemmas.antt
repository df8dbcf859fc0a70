-- Cutting the file and the journals.
use Rattle.std.proofs.Common.{◌≡◌, ◌≢◌, ℕ, zero, suc, ◌+◌, ◌-◌, ◌<◌, ◌≤◌, List, [], ◌∷◌, ◌++◌, length, map, refl, arith, sym, ap, subst, ◌∙◌, Bool, true, false, cond, Option, Some, None, length-append}
use Rattle.std.specs.Prelude.{nat_lt, filter, ◌||◌, slice_get}
use Rattle.std.proofs.lemmas.Bool.Decides.{nat_tests}
use Rattle.spe_model.specs.declared.file.FileNo.TheVariants.{Journal}
use Rattle.spe_model.specs.Content.{Content}
use Rattle.spe_model.specs.Journal.{numbers_from}
use Rattle.spe_model.specs.Recovery.{journal_of}
use Rattle.spe_model.specs.Trace.{History, present}
use Rattle.spe_disk.specs.Told.{Adds}
use Rattle.spe_model.specs.Rollback.{any_length, cuts_from, cut_of, has_length}
use Rattle.spe_recover.specs.declared.heads.JournalHead.{JournalHead}
use Rattle.spe_recover.specs.Heads.{HaveLengths}
use Rattle.spe_recover.specs.Rule.{Does}
use Rattle.spe_recover.specs.Restored.{StaysFrom}
use Rattle.spe_disk.specs.Added.{AddsCut, IfTold, MakesCut}
use Rattle.spe_recover.proofs.CutLemmas.{HasLeft, left_first, left_next, left_broken}
use Rattle.spe_recover.proofs.RestoreLemmas.{Adds-nothing, Adds-append, file_stays, present_after}

-- looking for a journal with bytes, as far as it has come
abbrev pub IsLooked : ℕ → Content → Type 0
IsLooked id content = any_length content id (16 - id) ≡ any_length content 0 16

any_length-next : (content : Content) (id count : ℕ) → 0 < count → any_length content id count ≡ (has_length content id || any_length content (id + 1) (count - 1))
unfolding any_length
any_length-next content id zero some = absurd (omega arith)
any_length-next content id (suc n) some = let back : suc n - 1 ≡ n = omega arith in rw back refl

any_length-none : (content : Content) (id count : ℕ) → count ≡ 0 → any_length content id count ≡ false
unfolding any_length
any_length-none content id count none = rw none refl

any_step : (content : Content) (id : ℕ) → id < 16 → any_length content id (16 - id) ≡ (has_length content id || any_length content (id + 1) (16 - (id + 1)))
any_step content id few =
    let same : 16 - id - 1 ≡ 16 - (id + 1) = omega arith in
    any_length-next content id (16 - id) (omega arith) ∙ ap (λ (n : ℕ). has_length content id || any_length content (id + 1) n) same

pub look_found : (content : Content) (id n : ℕ) → id < 16 → 0 < n → n ≡ length (journal_of content id) → IsLooked id content → true ≡ any_length content 0 16
look_found content id n few some is looked =
    let long : has_length content id ≡ true = grind (arith, nat_tests, is) in
    sym (any_step content id few ∙ rw long refl) ∙ looked

pub look_turn : (content : Content) (id n : ℕ) → id < 16 → n ≤ 0 → n ≡ length (journal_of content id) → IsLooked id content → IsLooked (id + 1) content
look_turn content id n few nothing is looked =
    let short : has_length content id ≡ false = grind (arith, nat_tests, is) in
    sym (any_step content id few ∙ rw short refl) ∙ looked

pub look_none : (content : Content) (id : ℕ) → 16 ≤ id → IsLooked id content → false ≡ any_length content 0 16
look_none content id all looked = sym (any_length-none content id (16 - id) (omega arith)) ∙ looked

-- how long a journal was that stayed
pub length_now : (first now : Option History) (id : ℕ) (heads : List JournalHead) (head : JournalHead) → slice_get heads id ≡ Some head → StaysFrom id first now
    → IfTold first (HaveLengths heads) → IfTold now (λ content. head.length ≡ length (journal_of content id))
length_now None None id heads head is stays known = tt
length_now None (Some k) id heads head is stays known = absurd cc
length_now (Some h) None id heads head is stays known = absurd stays
length_now (Some h) (Some k) id heads head is stays known = known id head is ∙ ap length (sym (stays id (omega arith)))

-- one journal
cut_one : (content : Content) (id : ℕ) → cuts_from content id 1 ≡ cond (has_length content id) (cut_of id ∷ []) []
unfolding cuts_from
cut_one content id = by_test (has_length content id)
  where
    by_test : (b : Bool) → map cut_of (cond b (id ∷ []) []) ≡ cond b (cut_of id ∷ []) []
    by_test true = refl
    by_test false = refl

pub cut_nothing : (told : Option History) (id n : ℕ) → n ≡ 0 → IfTold told (λ content. n ≡ length (journal_of content id))
    → Does told told (λ content. cuts_from content id 1) 0
cut_nothing None id n nothing is = refl
cut_nothing (Some h) id n nothing is =
    let short : has_length (present h) id ≡ false = grind (arith, nat_tests, is) in
    let none : cuts_from (present h) id 1 ≡ [] = cut_one (present h) id ∙ rw short refl in
    (subst (Adds (Some h) (Some h)) (sym none) (Adds-nothing (Some h)), rw none refl)

pub cut_some : (told new : Option History) (id n : ℕ) → n ≢ 0 → IfTold told (λ content. n ≡ length (journal_of content id))
    → Adds told new (cut_of id ∷ []) → Does told new (λ content. cuts_from content id 1) 1
cut_some None new id n some is adds = adds
cut_some (Some h) new id n some is adds =
    let long : has_length (present h) id ≡ true = grind (arith, nat_tests, is) in
    let one : cuts_from (present h) id 1 ≡ cut_of id ∷ [] = cut_one (present h) id ∙ rw long refl in
    (subst (Adds (Some h) new) (sym one) adds, rw one refl)

pub cut_stays : (told new : Option History) (id : ℕ) → Adds told new (cut_of id ∷ []) → StaysFrom (id + 1) told new
cut_stays None new id adds = adds
cut_stays (Some h) None id adds = absurd cc
cut_stays (Some h) (Some k) id adds = λ i above.
    let same : k ≡ record { first = h.first; trace = h.trace ++ cut_of id ∷ [] } = cc in
    ap (λ (c : Content). journal_of c i) (present_after h (cut_of id ∷ []) k same) ∙ file_stays (present h) (Journal id) (Journal i) _ (omega arith)

pub StaysFrom-same : (id : ℕ) (told : Option History) → StaysFrom id told told
StaysFrom-same id None = refl
StaysFrom-same id (Some h) = λ i above. refl

pub StaysFrom-next : (id : ℕ) (first now next : Option History) → StaysFrom id first now → StaysFrom (id + 1) now next → StaysFrom (id + 1) first next
StaysFrom-next id None None next a b = b
StaysFrom-next id None (Some k) next a b = absurd cc
StaysFrom-next id (Some h) None next a b = absurd a
StaysFrom-next id (Some h) (Some k) None a b = absurd b
StaysFrom-next id (Some h) (Some k) (Some l) a b = λ i above. b i above ∙ a i (omega arith)

-- the cuts that are left, once the journals before one were cut
abbrev pub AreUncut : ℕ → Option History → Option History → ℕ → Type 0
AreUncut id None now made = now ≡ None
AreUncut id (Some h) now made =
    (last : Option History) → Adds now last (cuts_from (present h) id (16 - id))
    → Adds (Some h) last (cuts_from (present h) 0 16) × (made + length (cuts_from (present h) id (16 - id)) ≡ length (cuts_from (present h) 0 16))

pub cuts_from-next : (content : Content) (id count : ℕ) → 0 < count → cuts_from content id count ≡ cuts_from content id 1 ++ cuts_from content (id + 1) (count - 1)
unfolding cuts_from
cuts_from-next content id zero some = absurd (omega arith)
cuts_from-next content id (suc n) some = let back : suc n - 1 ≡ n = omega arith in rw back (by_test (has_length content id))
  where
    by_test : (b : Bool) → map cut_of (cond b (id ∷ filter (has_length content) (numbers_from (id + 1) n)) (filter (has_length content) (numbers_from (id + 1) n)))
        ≡ map cut_of (cond b (id ∷ []) []) ++ map cut_of (filter (has_length content) (numbers_from (id + 1) n))
    by_test true = refl
    by_test false = refl

pub cuts_from-none : (content : Content) (id count : ℕ) → count ≡ 0 → cuts_from content id count ≡ []
unfolding cuts_from
cuts_from-none content id count none = rw none refl

pub cut_same : (old now : Content) (id : ℕ) → journal_of now id ≡ journal_of old id → cuts_from now id 1 ≡ cuts_from old id 1
cut_same old now id same = cut_one now id ∙ ap (λ (journal : List ℕ). cond (nat_lt 0 (length journal)) (cut_of id ∷ []) []) same ∙ sym (cut_one old id)

pub uncut_first : (told : Option History) → AreUncut 0 told told 0
uncut_first None = refl
uncut_first (Some h) = λ last adds. (adds, omega arith)

pub uncut_turn : (first now next : Option History) (id made some : ℕ) → id < 16 → StaysFrom id first now → Does now next (λ content. cuts_from content id 1) some
    → AreUncut id first now made → AreUncut (id + 1) first next (made + some)
uncut_turn None now next id made some few stays does uncut = by_none now uncut does
  where
    by_none : (t : Option History) → t ≡ None → Does t next (λ content. cuts_from content id 1) some → next ≡ None
    by_none None is does = does
    by_none (Some k) is does = absurd cc
uncut_turn (Some h) None next id made some few stays does uncut = absurd stays
uncut_turn (Some h) (Some k) next id made some few stays does uncut = λ last adds.
    let here : cuts_from (present k) id 1 ≡ cuts_from (present h) id 1 = cut_same (present h) (present k) id (stays id (omega arith)) in
    let same : 16 - id - 1 ≡ 16 - (id + 1) = omega arith in
    let step : cuts_from (present h) id (16 - id) ≡ cuts_from (present h) id 1 ++ cuts_from (present h) (id + 1) (16 - (id + 1)) =
    cuts_from-next (present h) id (16 - id) (omega arith) ∙ ap (λ (n : ℕ). cuts_from (present h) id 1 ++ cuts_from (present h) (id + 1) n) same in
    let one : Adds (Some k) next (cuts_from (present h) id 1) = subst (Adds (Some k) next) here does.0 in
    let both : Adds (Some k) last (cuts_from (present h) id (16 - id)) =
    subst (Adds (Some k) last) (sym step) (Adds-append (Some k) next last (cuts_from (present h) id 1) (cuts_from (present h) (id + 1) (16 - (id + 1))) one adds) in
    let done = uncut last both in
    let count : length (cuts_from (present h) id (16 - id)) ≡ some + length (cuts_from (present h) (id + 1) (16 - (id + 1))) =
    ap length step ∙ length-append (cuts_from (present h) id 1) (cuts_from (present h) (id + 1) (16 - (id + 1)))
    ∙ ap (λ (n : ℕ). n + length (cuts_from (present h) (id + 1) (16 - (id + 1)))) (sym (does.1 ∙ ap length here)) in
    (done.0, omega (arith, done.1, count))

pub uncut_none : (first now : Option History) (id made : ℕ) → 16 ≤ id → AreUncut id first now made → StaysFrom id first now
    → Does first now (λ content. cuts_from content 0 16) made
uncut_none None now id made all uncut stays = uncut
uncut_none (Some h) now id made all uncut stays =
    let none : cuts_from (present h) id (16 - id) ≡ [] = cuts_from-none (present h) id (16 - id) (omega arith) in
    let done = uncut now (subst (Adds now now) (sym none) (Adds-nothing now)) in
    (done.0, omega (arith, done.1, ap length none))

-- a journal's cut broke off
pub cut_broken : (told new : Option History) (id n : ℕ) → n ≢ 0 → IfTold told (λ content. n ≡ length (journal_of content id))
    → MakesCut told new (λ content. cut_of id ∷ []) → MakesCut told new (λ content. cuts_from content id 1)
cut_broken None new id n some is cut = tt
cut_broken (Some h) new id n some is cut =
    let long : has_length (present h) id ≡ true = grind (arith, nat_tests, is) in
    let one : cuts_from (present h) id 1 ≡ cut_of id ∷ [] = cut_one (present h) id ∙ rw long refl in
    subst (AddsCut (Some h) new) (sym one) cut

-- the cuts of the journals from one on are left
abbrev pub HasCutsLeft : ℕ → Option History → Option History → Type 0
HasCutsLeft id first now = IfTold first (λ content. HasLeft first now (cuts_from content 0 16) (cuts_from content id (16 - id)))

cuts_step : (content : Content) (id : ℕ) → id < 16 → cuts_from content id (16 - id) ≡ cuts_from content id 1 ++ cuts_from content (id + 1) (16 - (id + 1))
cuts_step content id few =
    let same : 16 - id - 1 ≡ 16 - (id + 1) = omega arith in
    cuts_from-next content id (16 - id) (omega arith) ∙ ap (λ (n : ℕ). cuts_from content id 1 ++ cuts_from content (id + 1) n) same

pub cuts_first : (told : Option History) → HasCutsLeft 0 told told
cuts_first None = tt
cuts_first (Some h) = left_first (Some h) (cuts_from (present h) 0 16)

pub cuts_turn : (first now next : Option History) (id some : ℕ) → id < 16 → StaysFrom id first now → Does now next (λ content. cuts_from content id 1) some
    → HasCutsLeft id first now → HasCutsLeft (id + 1) first next
cuts_turn None now next id some few stays does begun = tt
cuts_turn (Some h) None next id some few stays does begun = absurd stays
cuts_turn (Some h) (Some k) next id some few stays does begun =
    let here : cuts_from (present k) id 1 ≡ cuts_from (present h) id 1 = cut_same (present h) (present k) id (stays id (omega arith)) in
    left_next (Some h) (Some k) next (cuts_from (present h) 0 16) _ (cuts_from (present h) id 1) _ (cuts_step (present h) id few) (subst (Adds (Some k) next) here does.0) begun

pub cuts_broken : (first now next : Option History) (id : ℕ) → id < 16 → StaysFrom id first now → MakesCut now next (λ content. cuts_from content id 1)
    → HasCutsLeft id first now → MakesCut first next (λ content. cuts_from content 0 16)
cuts_broken None now next id few stays cut begun = tt
cuts_broken (Some h) None next id few stays cut begun = absurd stays
cuts_broken (Some h) (Some k) next id few stays cut begun =
    let here : cuts_from (present k) id 1 ≡ cuts_from (present h) id 1 = cut_same (present h) (present k) id (stays id (omega arith)) in
    left_broken (Some h) (Some k) next (cuts_from (present h) 0 16) _ (cuts_from (present h) id 1) _ (cuts_step (present h) id few) (subst (AddsCut (Some k) next) here cut) begun
