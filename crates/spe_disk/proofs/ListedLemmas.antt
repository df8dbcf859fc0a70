-- Journals that are made as a disk in memory was asked to.
use Rattle.std.proofs.Common.{◌≡◌, ℕ, ◌+◌, ◌-◌, ◌<◌, List, [], ◌∷◌, ◌++◌, refl, sym, ap, subst, ◌∙◌, arith, append_assoc, true, false}
use Rattle.spe_model.specs.declared.file.FileNo.TheVariants.{Journal}
use Rattle.spe_model.specs.Trace.Operation.{Cut}
use Rattle.spe_model.specs.Content.{Content, file_of}
use Rattle.spe_disk.specs.declared.memory.MemDisk.{MemDisk}
use Rattle.spe_disk.specs.Told.{absent_among, absent_below, absent_journals}
use Rattle.spe_disk.specs.Memory.{AreMadeAsListed, FailsAsListed, TriesAsListed}
use Rattle.spe_disk.proofs.JournalLemmas.{absent_same, below_front, below_more}

made_append : (xs ys : List ℕ) (first middle last : MemDisk) → AreMadeAsListed xs first middle → AreMadeAsListed ys middle last → AreMadeAsListed (xs ++ ys) first last
made_append [] ys first middle last a b = subst (λ (d : MemDisk). AreMadeAsListed ys d last) a b
made_append (x ∷ xs) ys first middle last a b = (a.0, a.1, made_append xs ys a.0 middle last a.2 b)

-- a journal that is there, and one that is not
pub made_none : (numbers : List ℕ) (disk : MemDisk) → numbers ≡ [] → AreMadeAsListed numbers disk disk
made_none numbers disk none = subst (λ (ns : List ℕ). AreMadeAsListed ns disk disk) (sym none) refl

pub made_one : (numbers : List ℕ) (n : ℕ) (old new : MemDisk) → numbers ≡ n ∷ [] → TriesAsListed old new (Cut (Journal n) 0) 0 false → AreMadeAsListed numbers old new
made_one numbers n old new one tried = subst (λ (ns : List ℕ). AreMadeAsListed ns old new) (sym one) (new, tried, refl)

pub failed_one : (numbers : List ℕ) (n : ℕ) (old new : MemDisk) → numbers ≡ n ∷ [] → TriesAsListed old new (Cut (Journal n) 0) 0 true → FailsAsListed numbers old new
failed_one numbers n old new one tried = record { front = []; failing = n; rest = []; parts = one; before = old; made = refl; fails = tried }

-- one more number is done
pub made_more : (content now : Content) (n : ℕ) (first before after : MemDisk) → file_of now (Journal n) ≡ file_of content (Journal n)
    → AreMadeAsListed (absent_below content n) first before → AreMadeAsListed (absent_among now (n ∷ [])) before after
    → AreMadeAsListed (absent_below content (n + 1)) first after
made_more content now n first before after same so_far one =
    let here : AreMadeAsListed (absent_among content (n ∷ [])) before after = subst (λ (ns : List ℕ). AreMadeAsListed ns before after) (absent_same now content n same) one in
    subst (λ (ns : List ℕ). AreMadeAsListed ns first after) (sym (below_more content n))
    (made_append (absent_below content n) (absent_among content (n ∷ [])) first before after so_far here)

failed_behind : (xs ys tail : List ℕ) (first before after : MemDisk) → AreMadeAsListed xs first before → FailsAsListed ys before after → FailsAsListed (xs ++ ys ++ tail) first after
failed_behind xs ys tail first before after made f = record {
  front = xs ++ f.front;
  failing = f.failing;
  rest = f.rest ++ tail;
  parts =
      ap (λ (ns : List ℕ). xs ++ ns ++ tail) f.parts
      ∙ ap (λ (ns : List ℕ). ns ++ tail) (sym (append_assoc xs f.front (f.failing ∷ f.rest)))
      ∙ append_assoc (xs ++ f.front) (f.failing ∷ f.rest) tail;
  before = f.before;
  made = made_append xs f.front first before f.before made f.made;
  fails = f.fails;
}

-- some first ones were made where the last has failed
pub made_failed : (content now : Content) (n : ℕ) (first before after : MemDisk) → n < 16 → file_of now (Journal n) ≡ file_of content (Journal n)
    → AreMadeAsListed (absent_below content n) first before → FailsAsListed (absent_among now (n ∷ [])) before after
    → FailsAsListed (absent_journals content) first after
made_failed content now n first before after below same so_far one =
    let here : FailsAsListed (absent_among content (n ∷ [])) before after = subst (λ (ns : List ℕ). FailsAsListed ns before after) (absent_same now content n same) one in
    let tail = below_front content (n + 1) (15 - n) in
    let whole : n + 1 + (15 - n) ≡ 16 = omega arith in
    let all : absent_journals content ≡ absent_below content n ++ absent_among content (n ∷ []) ++ tail.0 =
    ap (absent_below content) (sym whole) ∙ tail.1 ∙ ap (λ (ns : List ℕ). ns ++ tail.0) (below_more content n) in
    subst (λ (ns : List ℕ). FailsAsListed ns first after) (sym all) (failed_behind (absent_below content n) (absent_among content (n ∷ [])) tail.0 first before after so_far here)
