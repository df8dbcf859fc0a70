-- The heads of journals.
use Rattle.std.proofs.Common.{◌≡◌, ℕ, zero, suc, ◌+◌, ◌-◌, ◌<◌, ◌≤◌, List, [], ◌∷◌, ◌++◌, length, take, drop, min, refl, arith, sym, ap, subst, ◌∙◌, Bool, true, false, cond, Option, Some, None, length-take}
use Rattle.std.specs.Prelude.{◌==◌, not, ◌&&◌, slice_get, slice_set}
use Rattle.std.specs.List.{find}
use Rattle.std.proofs.Math.Seq.{take-append_seam}
use Rattle.std.proofs.lemmas.List.{take-append-drop, drop_all, take_all}
use Rattle.std.proofs.lemmas.Bool.{cases_lt}
use Rattle.std.proofs.lemmas.Option.{slice_get_within}
use Rattle.std.proofs.Common.{⊎_elim}
use Rattle.spe_model.specs.Big.{u32_at}
use Rattle.spe_model.specs.Content.{Content, filled}
use Rattle.spe_model.specs.Journal.{has_head, head_page_size, hot_records, numbers_from}
use Rattle.spe_model.specs.Recovery.{journal_of}
use Rattle.spe_model.specs.Trace.{History, present}
use Rattle.spe_journal.specs.Kind.{kind_of, saved_under}
use Rattle.spe_journal.specs.declared.head.JournalKind.{JournalKind}
use Rattle.spe_journal.specs.declared.head.JournalKind.TheVariants.{Cold, OtherSize, Hot}
use Rattle.spe_recover.specs.declared.heads.JournalHead.{JournalHead}
use Rattle.spe_recover.specs.declared.heads.OtherSize as others
use Rattle.spe_model.specs.Rollback.{any_length}
use Rattle.spe_recover.specs.Heads.{names_other, other_from, IsOther, IsHead, AreHeads, HaveLengths}
use Rattle.spe_recover.specs.Restored.{Stays}
use Rattle.spe_disk.specs.Added.{IfTold}
use Rattle.spe_recover.proofs.RestoreLemmas.{get_set}

-- the bytes that were there, without the zeros behind them
pub front_of : (bytes : List ℕ) (n count : ℕ) → count ≡ min n (length bytes - 0) → take count (filled bytes 0 n) ≡ take n bytes
front_of bytes n count e =
    let len : length (take n bytes) ≡ min n (length bytes) = length-take n bytes in
    let same : count ≡ length (take n bytes) = omega arith in
    rw same (take-append_seam (take n bytes) _)

-- what the first bytes of a journal say, as many as are there, the whole journal says
record IsFrontOf (n : ℕ) (head front journal : List ℕ) : Type 0 where
  cut : front ≡ take n head
  read : head ≡ filled journal 0 512
  count : n ≡ min 512 (length journal - 0)

is_front : (n : ℕ) (head front journal : List ℕ) → IsFrontOf n head front journal → front ≡ take 512 journal
is_front n head front journal f = f.cut ∙ ap (take n) f.read ∙ front_of journal 512 n f.count

pub kind_front : (page_size n : ℕ) (head front journal : List ℕ) (kind : JournalKind) → front ≡ take n head → head ≡ filled journal 0 512 → n ≡ min 512 (length journal - 0)
    → kind ≡ kind_of page_size front → (512 ≤ length front → (behind : List ℕ) → kind_of page_size (front ++ behind) ≡ kind)
    → kind_of page_size journal ≡ kind
kind_front page_size n head front journal kind cut read count own long =
    let is : front ≡ take 512 journal = is_front n head front journal (record { cut = cut; read = read; count = count }) in
    ⊎_elim
    (λ (short : length journal < 512). let whole : front ≡ journal = is ∙ take_all 512 journal (omega arith) in ap (kind_of page_size) (sym whole) ∙ sym own)
    (λ (enough : 512 ≤ length journal).
    let size : length front ≡ 512 = ap length is ∙ length-take 512 journal ∙ omega arith in
    let joined : front ++ drop 512 journal ≡ journal = ap (λ (b : List ℕ). b ++ drop 512 journal) is ∙ take-append-drop 512 journal in
    ap (kind_of page_size) (sym joined) ∙ long (omega arith) (drop 512 journal))
    (cases_lt (length journal) 512)

pub saves_front : (page_size n : ℕ) (head front journal : List ℕ) (kind : JournalKind) → front ≡ take n head → head ≡ filled journal 0 512 → n ≡ min 512 (length journal - 0)
    → hot_records page_size front ≡ saved_under kind page_size (drop 512 front)
    → (512 ≤ length front → (behind : List ℕ) → hot_records page_size (front ++ behind) ≡ saved_under kind page_size (drop 512 front ++ behind))
    → hot_records page_size journal ≡ saved_under kind page_size (drop 512 journal)
saves_front page_size n head front journal kind cut read count own long =
    let is : front ≡ take 512 journal = is_front n head front journal (record { cut = cut; read = read; count = count }) in
    ⊎_elim
    (λ (short : length journal < 512). let whole : front ≡ journal = is ∙ take_all 512 journal (omega arith) in rw whole at own)
    (λ (enough : 512 ≤ length journal).
    let size : length front ≡ 512 = ap length is ∙ length-take 512 journal ∙ omega arith in
    let joined : front ++ drop 512 journal ≡ journal = ap (λ (b : List ℕ). b ++ drop 512 journal) is ∙ take-append-drop 512 journal in
    let nothing : drop 512 front ≡ [] = drop_all 512 front (omega arith) in
    ap (hot_records page_size) (sym joined) ∙ long (omega arith) (drop 512 journal)
    ∙ ap (λ (b : List ℕ). saved_under kind page_size (b ++ drop 512 journal)) nothing)
    (cases_lt (length journal) 512)

-- whether a head says another page size, and which
abbrev is_other : JournalKind → Bool
is_other Cold = false
is_other (OtherSize n) = true
is_other (Hot n) = false

kind_tests : (headed same : Bool) (named nonce : ℕ) → headed && not same ≡ is_other (cond headed (cond same (Hot nonce) (OtherSize named)) Cold)
kind_tests true true named nonce = refl
kind_tests true false named nonce = refl
kind_tests false same named nonce = refl

pub names_other-kind : (page_size : ℕ) (journal : List ℕ) → names_other page_size journal ≡ is_other (kind_of page_size journal)
unfolding kind_of
names_other-kind page_size journal = kind_tests (has_head journal) (head_page_size journal == page_size) (head_page_size journal) (u32_at journal 12)

named_tests : (headed same : Bool) (named nonce size : ℕ) → cond headed (cond same (Hot nonce) (OtherSize named)) Cold ≡ OtherSize size → named ≡ size
named_tests true true named nonce size e = absurd cc
named_tests true false named nonce size e = cc
named_tests false same named nonce size e = absurd cc

pub named-kind : (page_size size : ℕ) (journal : List ℕ) → kind_of page_size journal ≡ OtherSize size → head_page_size journal ≡ size
unfolding kind_of
named-kind page_size size journal e =
    named_tests (has_head journal) (head_page_size journal == page_size) (head_page_size journal) (u32_at journal 12) size e

-- one journal more
numbers_from-next : (id count : ℕ) → 0 < count → numbers_from id count ≡ id ∷ numbers_from (id + 1) (count - 1)
numbers_from-next id zero some = absurd (omega arith)
numbers_from-next id (suc n) some = let back : suc n - 1 ≡ n = omega arith in rw back refl

find_no : (test : ℕ → Bool) (id count : ℕ) → 0 < count → test id ≡ false → find test (numbers_from id count) ≡ find test (numbers_from (id + 1) (count - 1))
find_no test id count some missed = rw (numbers_from-next id count some, missed) refl

find_yes : (test : ℕ → Bool) (id count : ℕ) → 0 < count → test id ≡ true → find test (numbers_from id count) ≡ Some id
find_yes test id count some hit = rw (numbers_from-next id count some, hit) refl

other_from-no : (content : Content) (page_size id : ℕ) → id < 16 → names_other page_size (journal_of content id) ≡ false
    → other_from content page_size id (16 - id) ≡ other_from content page_size (id + 1) (16 - (id + 1))
unfolding other_from
other_from-no content page_size id some missed =
    find_no (λ i. names_other page_size (journal_of content i)) id (16 - id) (omega arith) missed
    ∙ ap (λ (n : ℕ). find (λ i. names_other page_size (journal_of content i)) (numbers_from (id + 1) n)) (omega arith)

other_from-yes : (content : Content) (page_size id : ℕ) → id < 16 → names_other page_size (journal_of content id) ≡ true
    → other_from content page_size id (16 - id) ≡ Some id
unfolding other_from
other_from-yes content page_size id some hit = find_yes (λ i. names_other page_size (journal_of content i)) id (16 - id) (omega arith) hit

other_from-none : (content : Content) (page_size id : ℕ) → 16 ≤ id → other_from content page_size id (16 - id) ≡ None
unfolding other_from
other_from-none content page_size id all = let none : 16 - id ≡ 0 = omega arith in rw none refl

-- the search as far as it has come
abbrev pub IsSearched : ℕ → ℕ → Content → Type 0
IsSearched page_size id content = other_from content page_size id (16 - id) ≡ other_from content page_size 0 16

pub searched_turn : (content : Content) (page_size id : ℕ) (kind : JournalKind) → id < 16 → kind_of page_size (journal_of content id) ≡ kind
    → ((size : ℕ) → kind ≡ OtherSize size → ⊥) → IsSearched page_size id content → IsSearched page_size (id + 1) content
searched_turn content page_size id kind some same other before =
    let missed : names_other page_size (journal_of content id) ≡ false =
    names_other-kind page_size (journal_of content id) ∙ ap is_other same ∙ not_other kind other in
    sym (other_from-no content page_size id some missed) ∙ before
  where
    not_other : (kind : JournalKind) → ((size : ℕ) → kind ≡ OtherSize size → ⊥) → is_other kind ≡ false
    not_other Cold other = refl
    not_other (OtherSize n) other = absurd (other n refl)
    not_other (Hot n) other = refl

pub searched_found : (content : Content) (page_size id size : ℕ) → id < 16 → kind_of page_size (journal_of content id) ≡ OtherSize size
    → IsSearched page_size id content → IsOther content page_size (Some (record { id = id; size = size }))
searched_found content page_size id size some same before =
    let hit : names_other page_size (journal_of content id) ≡ true =
    names_other-kind page_size (journal_of content id) ∙ ap is_other same in
    record {
      first = sym before ∙ other_from-yes content page_size id some hit;
      named = named-kind page_size size (journal_of content id) same;
    }

pub searched_none : (content : Content) (page_size id : ℕ) → 16 ≤ id → IsSearched page_size id content → IsOther content page_size None
searched_none content page_size id all before = sym before ∙ other_from-none content page_size id all

-- what is so of each content is so of the one that is told
pub told_map : (told : Option History) (P Q : Content → Type 0) → ((content : Content) → P content → Q content) → IfTold told P → IfTold told Q
told_map None P Q step holds = tt
told_map (Some h) P Q step holds = step (present h) holds

-- one head of several
pub told_one : (told : Option History) (page_size id : ℕ) (heads : List JournalHead) (head : JournalHead) → slice_get heads id ≡ Some head
    → IfTold told (λ content. AreHeads content page_size heads) → IfTold told (λ content. IsHead content page_size id head)
told_one told page_size id heads head is known =
    told_map told (λ content. AreHeads content page_size heads) (λ content. IsHead content page_size id head) (λ content all. all id head is) known

pub told_head : (told : Option History) (page_size id length_of : ℕ) (kind : JournalKind) → IfTold told (λ content. kind_of page_size (journal_of content id) ≡ kind)
    → IfTold told (λ content. hot_records page_size (journal_of content id) ≡ saved_under kind page_size (drop 512 (journal_of content id)))
    → IfTold told (λ content. length_of ≡ length (journal_of content id))
    → IfTold told (λ content. IsHead content page_size id (record { kind = kind; length = length_of }))
told_head None page_size id length_of kind says saves long = tt
told_head (Some h) page_size id length_of kind says saves long = record { kind = says; saves = saves; length = long }

-- the heads of the journals before one
abbrev pub AreFirst : (page_size id : ℕ) → List JournalHead → Content → Type 0
AreFirst page_size id heads content = (i : ℕ) (head : JournalHead) → i < id → slice_get heads i ≡ Some head → IsHead content page_size i head

pub heads_first : (told : Option History) (page_size : ℕ) (heads : List JournalHead) → IfTold told (AreFirst page_size 0 heads)
heads_first None page_size heads = tt
heads_first (Some h) page_size heads = λ i head below is. absurd (omega arith)

get_same : {X : Type 0} (xs : List X) (i : ℕ) (x y : X) → slice_get (slice_set xs i x) i ≡ Some y → x ≡ y
get_same [] i x y is = absurd cc
get_same (z ∷ zs) zero x y is = cc
get_same (z ∷ zs) (suc i) x y is = get_same zs i x y is

pub heads_turn : (told : Option History) (page_size id : ℕ) (heads : List JournalHead) (next : JournalHead) → IfTold told (λ content. IsHead content page_size id next)
    → IfTold told (AreFirst page_size id heads) → IfTold told (AreFirst page_size (id + 1) (slice_set heads id next))
heads_turn None page_size id heads next one before = tt
heads_turn (Some h) page_size id heads next one before = λ i head below is. ⊎_elim
    (λ (early : i < id). before i head early (sym (get_set heads id i next (omega arith)) ∙ is))
    (λ (last : id ≤ i).
    let here : i ≡ id = omega arith in
    let same : next ≡ head = get_same heads id next head (subst (λ (n : ℕ). slice_get (slice_set heads id next) n ≡ Some head) here is) in
    rw here (subst (λ (x : JournalHead). IsHead (present h) page_size id x) same one))
    (cases_lt i id)

pub heads_all : (told : Option History) (page_size id : ℕ) (heads : List JournalHead) → length heads ≡ 16 → 16 ≤ id
    → IfTold told (AreFirst page_size id heads) → IfTold told (λ content. AreHeads content page_size heads)
heads_all None page_size id heads long all known = tt
heads_all (Some h) page_size id heads long all known = λ i head is. known i head (omega (arith, slice_get_within heads i head is)) is

pub other_told : (told : Option History) (page_size : ℕ) (heads : List JournalHead) (found other : Option others.OtherSize) → found ≡ other
    → ((content : Content) (page_size : ℕ) → AreHeads content page_size heads → IsOther content page_size found)
    → IfTold told (λ content. AreHeads content page_size heads) → IfTold told (λ content. IsOther content page_size other)
other_told told page_size heads found other is finds known =
    told_map told (λ content. AreHeads content page_size heads) (λ content. IsOther content page_size other)
    (λ content all. subst (λ (o : Option others.OtherSize). IsOther content page_size o) is (finds content page_size all)) known

pub any_told : (told : Option History) (page_size : ℕ) (heads : List JournalHead) (found any : Bool) → found ≡ any
    → ((content : Content) → HaveLengths heads content → found ≡ any_length content 0 16)
    → IfTold told (λ content. AreHeads content page_size heads) → IfTold told (λ content. any ≡ any_length content 0 16)
any_told told page_size heads found any is finds known =
    told_map told (λ content. AreHeads content page_size heads) (λ content. any ≡ any_length content 0 16)
    (λ content all. sym is ∙ finds content (λ id head at. (all id head at).length)) known

-- how long the journals were that stayed
pub lengths_now : (first now : Option History) (page_size : ℕ) (heads : List JournalHead) → Stays first now
    → IfTold first (λ content. AreHeads content page_size heads) → IfTold now (HaveLengths heads)
lengths_now None None page_size heads stays known = tt
lengths_now None (Some k) page_size heads stays known = absurd cc
lengths_now (Some h) None page_size heads stays known = absurd stays
lengths_now (Some h) (Some k) page_size heads stays known = λ id head is. (known id head is).length ∙ ap length (sym (stays id))
