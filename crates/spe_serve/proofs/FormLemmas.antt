-- The form of the free lists of pages that break no rule, and what `prepare` answers by it.
use Rattle.std.proofs.Common.{◌≡◌, ℕ, zero, suc, ◌+◌, ◌-◌, ◌*◌, ◌^◌, ◌≤◌, List, [], ◌∷◌, ◌++◌, length, map, Bool, true, false, Err, arith, refl, sym, ap, ◌∙◌, subst, ⊎_elim, append-nil, if◌then◌else◌}
use Rattle.std.specs.Prelude.{nat_le, nat_lt}
use Rattle.std.proofs.lemmas.Bool.{cases_Bool, le-leb}
use Rattle.std.proofs.lemmas.List.{length-map}
use Rattle.spe_model.specs.declared.recovery.Recovered.{Recovered}
use Rattle.spe_model.specs.declared.verdict.Verdict.{Verdict}
use Rattle.spe_model.specs.declared.verdict.Verdict.TheVariants as verdicts
use Rattle.spe_model.specs.Big.{u32_at}
use Rattle.spe_model.specs.Content.{Content}
use Rattle.spe_model.specs.Database.{Database}
use Rattle.spe_model.specs.FreeList.{names_node}
use Rattle.spe_model.specs.Journal.{numbers_from}
use Rattle.spe_model.specs.Paging.{Paging}
use Rattle.spe_model.specs.Served.{IsPrepared, usable_in}
use Rattle.spe_model.specs.Settled.{IsFound, IsWithinLimits, header_in, page_in}
use Rattle.spe_model.specs.Standing.{FreeChain, IsServer, IsStock, StandsFor, Whether, chain_of_free}
use Rattle.spe_model.specs.Verdict.{verdict_of}
use Rattle.spe_convert.specs.declared.fault.ConvertFault.{ConvertFault}
use Rattle.spe_convert.specs.declared.fault.ConvertFault.TheVariants as faults
use Rattle.spe_convert.specs.Changes.{added}
use Rattle.spe_convert.specs.Prepare.{ArePrepared, IsFullWhere, prepared_count}
use Rattle.spe_verdict.specs.Law.{StandsIsTrue, free_in}
use Rattle.spe_serve.specs.declared.reply.Reply.{Reply}
use Rattle.spe_serve.specs.declared.reply.Reply.TheVariants as replies
use Rattle.spe_serve.specs.Answer.{reply_of_form, reply_of_lists, reply_of_room, reply_over}
use Rattle.spe_serve.specs.Own.{StandOver, are_preparing, are_sound, found_in, is_standing}
use Rattle.spe_serve.specs.Reply.{is_done}
use Rattle.spe_serve.proofs.SameLemmas.{same_length}
use Rattle.spe_serve.proofs.ServerLemmas.{in_found}
use Rattle.spe_serve.proofs.StockLemmas.{Names, found_names}

-- pages that break no rule stand for a database
pub standing_is : (v : Verdict) → is_standing v ≡ true → (tables : ℕ) × (rows : ℕ) × (free : ℕ) × (v ≡ verdicts.Stands tables rows free)
standing_is (verdicts.Stands tables rows free) is = (tables, rows, free, refl)
standing_is (verdicts.Broken page rule) is = absurd cc

pub wide_in : (found : Recovered) (content : Content) (pages : List (List ℕ)) → IsWithinLimits found → IsFound found content pages → 480 ≤ usable_in (header_in pages)
wide_in found content pages limits is = let size = is.page_size in let rest = is.reserved in let room = limits.usable in omega (arith, size, rest, room)

-- such a database, with the number of free pages of the verdict
pub record Sound (pages : List (List ℕ)) : Type 0 where
  pub tables : ℕ
  pub rows : ℕ
  pub free : ℕ
  pub verdict : verdict_of (usable_in (header_in pages)) (length pages) (page_in pages) ≡ verdicts.Stands tables rows free
  pub db : Database
  pub stands : StandOver pages db
  pub counted : free ≡ free_in (page_in pages) stands.lists

pub sound_in : (found : Recovered) (content : Content) (pages : List (List ℕ)) → StandsIsTrue → IsWithinLimits found → IsFound found content pages → are_sound pages ≡ true → Sound pages
sound_in found content pages law limits is sound =
    let v = standing_is (verdict_of (usable_in (header_in pages)) (length pages) (page_in pages)) sound in
    let both = law (usable_in (header_in pages)) (length pages) (page_in pages) v.0 v.1 v.2 (wide_in found content pages limits is) v.3 in
    record { tables = v.0; rows = v.1; free = v.2; verdict = v.3; db = both.0; stands = both.1; counted = both.4 }

numbers_long : (start n : ℕ) → length (numbers_from start n) ≡ n
numbers_long start zero = refl
numbers_long start (suc n) = ap suc (numbers_long (start + 1) n)

few_lists : (n : ℕ) → 1 ≤ n → n ≤ 16 → (nat_le 1 n ≡ true) × (nat_le n 16 ≡ true)
few_lists n some few = (le-leb 1 n some, le-leb n 16 few)

-- where page 1 names a node page, it names some lists
pub named_prepared : (usable count : ℕ) (pages : Paging) (db : Database) (stands : StandsFor usable count pages db) → names_node (pages 1) ≡ true → IsPrepared pages
named_prepared usable count pages db stands named = go (subst (λ (b : Bool). Whether b (IsServer usable pages stands.lists stands.listed) (IsStock usable pages stands.lists stands.listed)) named stands.free)
  where
    go : IsServer usable pages stands.lists stands.listed → IsPrepared pages
    go is =
        let number = u32_at (pages (u32_at (pages 1) 32)) 0 in
        let named_lists : length stands.lists ≡ u32_at (pages is.node) 0 =
        sym (length-map stands.lists (λ (f : FreeChain). f.first)) ∙ ap length is.firsts
        ∙ length-map (numbers_from 0 (u32_at (pages is.node) 0)) (λ i. u32_at (pages is.node) (4 + 4 * i)) ∙ numbers_long 0 (u32_at (pages is.node) 0) in
        let long : length stands.lists ≡ number = named_lists ∙ ap (λ (n : ℕ). u32_at (pages n) 0) is.node_is in
        let both = few_lists number (subst (λ (n : ℕ). 1 ≤ n) long is.some) (subst (λ (n : ℕ). n ≤ 16) long is.few) in
        (named, rw (both.0, both.1) refl)

pub unnamed : (usable count : ℕ) (pages : Paging) (db : Database) → StandsFor usable count pages db → (IsPrepared pages → ⊥) → names_node (pages 1) ≡ false
unnamed usable count pages db stands other = ⊎_elim
    (λ (named : names_node (pages 1) ≡ true). absurd (other (named_prepared usable count pages db stands named)))
    (λ (none : names_node (pages 1) ≡ false). none)
    (cases_Bool (names_node (pages 1)))

-- in stock form the one list has all free pages
free_stock : (usable count : ℕ) (pages : Paging) (db : Database) (stands : StandsFor usable count pages db) → names_node (pages 1) ≡ false
    → free_in pages stands.lists ≡ length stands.listed
free_stock usable count pages db stands none = go (subst (λ (b : Bool). Whether b (IsServer usable pages stands.lists stands.listed) (IsStock usable pages stands.lists stands.listed)) none stands.free)
  where
    go : IsStock usable pages stands.lists stands.listed → free_in pages stands.lists ≡ length stands.listed
    go is = ap (free_in pages) is.one ∙ ap length (append-nil (chain_of_free pages is.only)) ∙ ap length (sym is.pages_are)

-- what `prepare` answers over pages
abbrev pub over : (lists : ℕ) → List (List ℕ) → Reply
over lists pages = reply_over lists (usable_in (header_in pages)) (length pages) (page_in pages)

over_form : (lists : ℕ) (pages : List (List ℕ)) (s : Sound pages)
    → over lists pages ≡ reply_of_form lists (header_in pages).page_size (length pages) s.free (names_node (page_in pages 1))
over_form lists pages s = ap (reply_of_lists lists (header_in pages).page_size (length pages) (names_node (page_in pages 1))) s.verdict

over_stock : (lists : ℕ) (pages : List (List ℕ)) (s : Sound pages) → names_node (page_in pages 1) ≡ false
    → over lists pages ≡ reply_of_room lists (header_in pages).page_size (length pages) (lists + 1 - length s.stands.listed)
over_stock lists pages s none =
    over_form lists pages s
    ∙ ap (reply_of_form lists (header_in pages).page_size (length pages) s.free) none
    ∙ ap (λ (n : ℕ). reply_of_room lists (header_in pages).page_size (length pages) (lists + 1 - n))
    (s.counted ∙ free_stock (usable_in (header_in pages)) (length pages) (page_in pages) s.db s.stands none)

room_left : (lists size count more : ℕ) → nat_lt (2 ^ 30) ((count + more) * size) ≡ false → reply_of_room lists size count more ≡ replies.Prepared lists (count + more)
room_left lists size count more fits = ap (λ (b : Bool). if b then replies.Full count else replies.Prepared lists (count + more)) fits

no_room : (lists size count more : ℕ) → nat_lt (2 ^ 30) ((count + more) * size) ≡ true → reply_of_room lists size count more ≡ replies.Full count
no_room lists size count more past = ap (λ (b : Bool). if b then replies.Full count else replies.Prepared lists (count + more)) past

-- where the pages are put in server form
pub over_prepared : (found : Recovered) (content : Content) (lists : ℕ) (pages : List (List ℕ)) (free : List ℕ) → IsFound found content pages → Sound pages
    → ArePrepared found lists pages free → over lists pages ≡ replies.Prepared lists (prepared_count found lists free)
over_prepared found content lists pages free is s are =
    let those = in_found found lists pages free (found_names found content pages is) are in
    let same : length s.stands.listed ≡ length free = sym (same_length free s.stands.listed (those.all s.db s.stands)) in
    over_stock lists pages s are.stock
    ∙ ap (λ (n : ℕ). reply_of_room lists (header_in pages).page_size (length pages) (lists + 1 - n)) same
    ∙ room_left lists (header_in pages).page_size (length pages) (lists + 1 - length free) those.fits
    ∙ ap (λ (n : ℕ). replies.Prepared lists (n + (lists + 1 - length free))) (sym is.counted)

-- where they are in it
pub over_named : (lists : ℕ) (pages : List (List ℕ)) → Sound pages → IsPrepared (page_in pages) → over lists pages ≡ replies.AlreadyPrepared
over_named lists pages s named = over_form lists pages s ∙ ap (reply_of_form lists (header_in pages).page_size (length pages) s.free) named.0

done_standing : (lists size count : ℕ) (named : Bool) (v : Verdict) → is_done (reply_of_lists lists size count named v) ≡ true → is_standing v ≡ true
done_standing lists size count named (verdicts.Stands tables rows free) is = refl
done_standing lists size count named (verdicts.Broken page rule) is = absurd cc

-- pages that `prepare` does not refuse break no rule
pub sound_preparing : (lists : ℕ) (pages : List (List ℕ)) → are_preparing lists pages ≡ true → are_sound pages ≡ true
sound_preparing lists pages is =
    done_standing lists (header_in pages).page_size (length pages) (names_node (page_in pages 1)) (verdict_of (usable_in (header_in pages)) (length pages) (page_in pages)) is

-- what is said of pages that are too many rests on these numbers alone
abbrev FullBy : (lists n : ℕ) (pages : List (List ℕ)) (size rest count : ℕ) → Type 0
FullBy lists n pages size rest count =
    (db : Database) (stands : StandsFor (size - rest) count (page_in pages) db) → (n ≡ count) × (nat_lt (2 ^ 30) ((count + added count lists stands.listed) * size) ≡ true)

full_in : (found : Recovered) (lists n : ℕ) (pages : List (List ℕ)) → Names found pages → IsFullWhere found lists (Err (faults.Full n)) (page_in pages)
    → FullBy lists n pages (header_in pages).page_size (header_in pages).reserved (length pages)
full_in found lists n pages names full =
    subst (λ (s : ℕ). FullBy lists n pages s (header_in pages).reserved (length pages)) names.size
    (subst (λ (r : ℕ). FullBy lists n pages found.page_size r (length pages)) names.rest
    (subst (λ (c : ℕ). FullBy lists n pages found.page_size found.reserved c) names.count full))

-- where they would be too many
pub over_full : (found : Recovered) (content : Content) (lists n : ℕ) (pages : List (List ℕ)) → IsFound found content pages → Sound pages → (IsPrepared (page_in pages) → ⊥)
    → IsFullWhere found lists (Err (faults.Full n)) (page_in pages) → over lists pages ≡ replies.Full n
over_full found content lists n pages is s other full =
    let fact = full_in found lists n pages (found_names found content pages is) full s.db s.stands in
    over_stock lists pages s (unnamed (usable_in (header_in pages)) (length pages) (page_in pages) s.db s.stands other)
    ∙ no_room lists (header_in pages).page_size (length pages) (lists + 1 - length s.stands.listed) fact.1
    ∙ ap (λ (k : ℕ). replies.Full k) (sym fact.0)
