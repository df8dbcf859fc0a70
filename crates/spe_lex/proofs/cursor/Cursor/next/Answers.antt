use Rattle.std.proofs.Common.{Option, refl, sym, ◌∙◌, ap, arith}
use Rattle.std.proofs.lemmas.Str.{IsUtf8-drop}
use Rattle.spe_model.specs.declared.token.TokenKind.{TokenKind}
use Rattle.spe_lex.specs.Piece.{piece_at}
use Rattle.spe_lex.proofs.PieceLemmas.{boundary}
use Rattle.spe_lex.proofs.LexLemmas.{a_piece, front_piece, gap_at, token_at}
use Rattle.spe_lex.proofs.cursor.Cursor.next.Goals as goal

pub split_at-requires : goal.split_at-requires
split_at-requires c =
    let front = front_piece c.gaps.left.now c.in-Some.kind c.in-Some.len (ap piece_at (sym c.as_bytes.ensures.value) ∙ (sym c.piece.ensures ∙ c.in-Some.is)) in
    boundary c.gaps.left.now c.in-Some.len front.ends c.gaps.invariant.text

pub new-requires : goal.new-requires
new-requires c =
    let is = ap piece_at (sym c.as_bytes.ensures.value) ∙ (sym c.piece.ensures ∙ (c.in-Some.is ∙ ap (λ (o : Option TokenKind). a_piece o c.in-Some.len) c.in-Some-kind.is)) in
    let front = front_piece c.gaps.left.now _ c.in-Some.len is in
    rw c.split_at.ensures.front (front.sound c.gaps.invariant.text)

pub returns-in-Some-kind : goal.returns-in-Some-kind
returns-in-Some-kind c =
    let is = ap piece_at (sym c.as_bytes.ensures.value) ∙ (sym c.piece.ensures ∙ (c.in-Some.is ∙ ap (λ (o : Option TokenKind). a_piece o c.in-Some.len) c.in-Some-kind.is)) in
    let front = front_piece c.gaps.left.now _ c.in-Some.len is in
    sym c.gaps.invariant.same
    ∙ (sym c.gaps.invariant.read
    ∙ (token_at c.gaps.at c.in-Some.len _ c.gaps.left.now is front.ends.some
    ∙ rw (c.new.ensures, c.split_at.ensures.front, c.split_at.ensures.back) refl))

pub gaps-smaller : goal.gaps-smaller
gaps-smaller c =
    let front = front_piece c.gaps.left.now c.in-Some.kind c.in-Some.len (ap piece_at (sym c.as_bytes.ensures.value) ∙ (sym c.piece.ensures ∙ c.in-Some.is)) in
    omega (arith, front.ends.some, front.ends.within, c.split_at.ensures.back_len)

pub gaps-preserved : goal.gaps-preserved
gaps-preserved c =
    let is = ap piece_at (sym c.as_bytes.ensures.value) ∙ (sym c.piece.ensures ∙ (c.in-Some.is ∙ ap (λ (o : Option TokenKind). a_piece o c.in-Some.len) c.in-None.is)) in
    let front = front_piece c.gaps.left.now _ c.in-Some.len is in record {
      read = rw c.split_at.ensures.back (sym (gap_at c.gaps.at c.in-Some.len c.gaps.left.now is front.ends.some) ∙ c.gaps.invariant.read);
      same = c.gaps.invariant.same;
      kept = c.gaps.invariant.kept;
      rest = omega (arith, front.ends.within, c.split_at.ensures.back_len, c.gaps.invariant.rest);
      text =
          rw c.split_at.ensures.back
          (IsUtf8-drop c.gaps.left.now c.in-Some.len c.gaps.invariant.text
          (boundary c.gaps.left.now c.in-Some.len front.ends c.gaps.invariant.text));
    }
