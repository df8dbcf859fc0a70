-- Bytes put at a place in others.
use Rattle.std.proofs.Common.{◌≡◌, ℕ, ◌+◌, ◌-◌, ◌≤◌, List, [], ◌++◌, length, take, drop, refl, sym, ap, ◌∙◌, arith, append_assoc, length-append, length-drop}
use Rattle.std.proofs.lemmas.List.{take-append-drop, take-append-le, take-take, take_at, drop_at, drop-drop, length-take-le}
use Rattle.byteorder.specs.Endian.{big_bytes}
use Rattle.spe_format.specs.Canonical.{splice}

pub length-splice : (at : ℕ) (bytes xs : List ℕ) → at + length bytes ≤ length xs → length (splice at bytes xs) ≡ length xs
length-splice at bytes xs fits =
    let front : length (take at xs) ≡ at = length-take-le at xs (omega arith) in
    rw (length-append, length-append, front, length-drop) (omega arith)

pub splice-none : (at : ℕ) (xs : List ℕ) → splice at [] xs ≡ xs
splice-none at xs = let same : at + 0 ≡ at = omega arith in rw same (take-append-drop at xs)

whole : (at : ℕ) (b xs : List ℕ) → splice at b xs ≡ (take at xs ++ b) ++ drop (at + length b) xs
whole at b xs = sym (append_assoc (take at xs) b (drop (at + length b) xs))

front_length : (at n : ℕ) (b xs : List ℕ) → n ≡ at + length b → at ≤ length xs → length (take at xs ++ b) ≡ n
front_length at n b xs is within =
    let front : length (take at xs) ≡ at = length-take-le at xs within in
    rw (length-append, front) (omega arith)

pub take_splice : (at n : ℕ) (b xs : List ℕ) → n ≡ at + length b → at ≤ length xs → take n (splice at b xs) ≡ take at xs ++ b
take_splice at n b xs is within = ap (take n) (whole at b xs) ∙ take_at (take at xs ++ b) (drop (at + length b) xs) n (front_length at n b xs is within)

pub drop_splice : (at n : ℕ) (b xs : List ℕ) → n ≡ at + length b → at ≤ length xs → drop n (splice at b xs) ≡ drop n xs
drop_splice at n b xs is within =
    ap (drop n) (whole at b xs) ∙ drop_at (take at xs ++ b) (drop (at + length b) xs) n (front_length at n b xs is within) ∙ ap (λ (k : ℕ). drop k xs) (sym is)

pub take_splice_below : (at n : ℕ) (b xs : List ℕ) → n ≤ at → at ≤ length xs → take n (splice at b xs) ≡ take n xs
take_splice_below at n b xs below within =
    let front : length (take at xs) ≡ at = length-take-le at xs within in
    take-append-le n (take at xs) (b ++ drop (at + length b) xs) (omega arith) ∙ take-take n at xs below

pub drop_splice_at : (at : ℕ) (b xs : List ℕ) → at ≤ length xs → drop at (splice at b xs) ≡ b ++ drop (at + length b) xs
drop_splice_at at b xs within = drop_at (take at xs) (b ++ drop (at + length b) xs) at (length-take-le at xs within)

drop_further : (n m : ℕ) (xs : List ℕ) → m ≤ n → drop n xs ≡ drop (n - m) (drop m xs)
drop_further n m xs below =
    let sum : m + (n - m) ≡ n = omega arith in
    ap (λ (k : ℕ). drop k xs) (sym sum) ∙ sym (drop-drop (n - m) m xs)

pub drop_splice_past : (at n : ℕ) (b xs : List ℕ) → at + length b ≤ n → at ≤ length xs → drop n (splice at b xs) ≡ drop n xs
drop_splice_past at n b xs past within =
    let m = at + length b in
    drop_further n m (splice at b xs) past ∙ ap (drop (n - m)) (drop_splice at m b xs refl within) ∙ sym (drop_further n m xs past)

-- bytes right behind others
pub splice-splice : (at n : ℕ) (a b xs : List ℕ) → n ≡ at + length a → at ≤ length xs → splice n b (splice at a xs) ≡ splice at (a ++ b) xs
splice-splice at n a b xs is within =
    let head : take n (splice at a xs) ≡ take at xs ++ a = take_splice at n a xs is within in
    let end : n + length b ≡ at + length (a ++ b) = omega (arith, length-append a b) in
    let tail : drop (n + length b) (splice at a xs) ≡ drop (at + length (a ++ b)) xs =
    drop_splice_past at (n + length b) a xs (omega arith) within ∙ ap (λ (k : ℕ). drop k xs) end in
    rw (head, tail) (simp append_assoc)

-- the same for what calls leave
pub then_splice : (at n : ℕ) (a b old one two : List ℕ) → n ≡ at + length a → at ≤ length old → one ≡ splice at a old → two ≡ splice n b one → two ≡ splice at (a ++ b) old
then_splice at n a b old one two is within e f = f ∙ ap (splice n b) e ∙ splice-splice at n a b old is within

-- A cell is written in front of those behind it, and its offset behind those before it.
pub body_turn : (page one two cell rest : List ℕ) (slot low new : ℕ) → new + length cell ≡ low → slot + 2 ≤ new → low ≤ length page
    → one ≡ splice new cell page → two ≡ splice slot (big_bytes 2 new) one
    → take (slot + 2) two ++ (rest ++ drop new two) ≡ take slot page ++ ((big_bytes 2 new ++ (rest ++ cell)) ++ drop low page)
body_turn page one two cell rest slot low new is gap within e f =
    let long : length one ≡ length page = ap length e ∙ length-splice new cell page (omega arith) in
    let before : take slot one ≡ take slot page = ap (take slot) e ∙ take_splice_below new slot cell page (omega arith) (omega arith) in
    let front : take (slot + 2) two ≡ take slot page ++ big_bytes 2 new =
    ap (take (slot + 2)) f ∙ take_splice slot (slot + 2) (big_bytes 2 new) one refl (omega arith) ∙ ap (λ (xs : List ℕ). xs ++ big_bytes 2 new) before in
    let behind : drop new two ≡ cell ++ drop low page =
    ap (drop new) f ∙ drop_splice_past slot new (big_bytes 2 new) one gap (omega arith) ∙ ap (drop new) e ∙ drop_splice_at new cell page (omega arith)
    ∙ ap (λ (k : ℕ). cell ++ drop k page) is in
    rw (front, behind) (simp append_assoc)

-- the bytes between are written last
pub body_end : (page last : List ℕ) (slot low : ℕ) (zeros : List ℕ) → length zeros ≡ low - slot → slot ≤ low → last ≡ splice slot zeros page
    → last ≡ take slot page ++ (zeros ++ drop low page)
body_end page last slot low zeros long within e =
    let end : slot + length zeros ≡ low = omega arith in
    e ∙ ap (λ (k : ℕ). take slot page ++ (zeros ++ drop k page)) end

-- five parts, one behind the other
pub five_parts : (at p q r s : ℕ) (a b c d e old one two three four five : List ℕ) → p ≡ at + length a → q ≡ p + length b → r ≡ q + length c → s ≡ r + length d
    → at ≤ length old → one ≡ splice at a old → two ≡ splice p b one → three ≡ splice q c two → four ≡ splice r d three → five ≡ splice s e four
    → five ≡ splice at (a ++ (b ++ (c ++ (d ++ e)))) old
five_parts at p q r s a b c d e old one two three four five pa qb rc sd within f g h i j =
    let ab = length-append a b in
    let abc = length-append (a ++ b) c in
    let abcd = length-append ((a ++ b) ++ c) d in
    let second : two ≡ splice at (a ++ b) old = then_splice at p a b old one two pa within f g in
    let third : three ≡ splice at ((a ++ b) ++ c) old = then_splice at q (a ++ b) c old two three (omega arith) within second h in
    let fourth : four ≡ splice at (((a ++ b) ++ c) ++ d) old = then_splice at r ((a ++ b) ++ c) d old three four (omega arith) within third i in
    let fifth : five ≡ splice at ((((a ++ b) ++ c) ++ d) ++ e) old = then_splice at s (((a ++ b) ++ c) ++ d) e old four five (omega arith) within fourth j in
    let shape : (((a ++ b) ++ c) ++ d) ++ e ≡ a ++ (b ++ (c ++ (d ++ e))) = simp append_assoc in
    fifth ∙ ap (λ (bytes : List ℕ). splice at bytes old) shape

-- bytes right before others
pub splice_before : (n m : ℕ) (a b xs one two : List ℕ) → n + length a ≡ m → m ≤ length xs → one ≡ splice m b xs → two ≡ splice n a one → two ≡ splice n (a ++ b) xs
splice_before n m a b xs one two is within e f =
    let front : take n (splice m b xs) ≡ take n xs = take_splice_below m n b xs (omega arith) within in
    let back : drop (n + length a) (splice m b xs) ≡ b ++ drop (m + length b) xs = ap (λ (k : ℕ). drop k (splice m b xs)) is ∙ drop_splice_at m b xs within in
    let end : m + length b ≡ n + length (a ++ b) = omega (arith, length-append a b) in
    f ∙ ap (splice n a) e ∙ rw (front, back) (ap (λ (ys : List ℕ). take n xs ++ ys) (sym (append_assoc a b (drop (m + length b) xs)) ∙ ap (λ (k : ℕ). (a ++ b) ++ drop k xs) end))

-- bytes that stand there already
pub splice_same : (n : ℕ) (b xs : List ℕ) → drop n xs ≡ b ++ drop (n + length b) xs → xs ≡ splice n b xs
splice_same n b xs e = sym (take-append-drop n xs) ∙ ap (λ (ys : List ℕ). take n xs ++ ys) e
