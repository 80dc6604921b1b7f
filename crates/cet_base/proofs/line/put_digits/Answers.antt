use Rattle.std.proofs.Common.{◌≡◌, ℕ, ◌+◌, ◌-◌, ◌∙◌, ◌/◌, drop, arith}
use Rattle.std.proofs.lemmas.List.{drop_all, length-set}
use Rattle.cet_base.proofs.Digits.{digits_start, fewer, some_left, turned, turned_last, written}
use Rattle.cet_base.proofs.line.put_digits.Goals as goal

pub loop-rest-init : goal.loop-rest-init
loop-rest-init c = record {
  size = c.told-glyphs;
  some = omega arith;
  most = omega arith;
  small = omega arith;
  text = digits_start c.args.number (drop 16 c.args.glyphs.now) (drop_all 16 c.args.glyphs.now (omega arith));
}

pub returns-then-rest-eq0-clause-digits : goal.returns-then-rest-eq0-clause-digits
returns-then-rest-eq0-clause-digits c =
    let invariant = c.loop-rest.invariant in
    turned_last (48 + c.loop-rest.start) 16 c.loop-rest.rest c.glyph.result (drop c.loop-rest.start c.loop-rest.glyphs) _ (omega arith) c.glyph.ensures
    (written c.loop-rest.glyphs c.loop-rest.start c.glyph.result invariant.some (omega arith)) c.if-rest-eq0.true
    ∙ invariant.text

pub loop-rest-preserved : goal.loop-rest-preserved
loop-rest-preserved c =
    let invariant = c.loop-rest.invariant in
    let start : ℕ = c.loop-rest.start in
    let small = fewer c.loop-rest.rest start invariant.small invariant.some in
    let count : 48 + (start - 1) ≡ 48 + start - 1 = omega arith in
    record {
      size = length-set c.loop-rest.glyphs (start - 1) c.glyph.result ∙ invariant.size;
      some = some_left (c.loop-rest.rest / 16) (start - 1) c.if-rest-eq0.false small;
      most = omega arith;
      small = small;
      text = rw count (turned (48 + start) 16 c.loop-rest.rest c.glyph.result (drop start c.loop-rest.glyphs) _ (omega arith) c.glyph.ensures
          (written c.loop-rest.glyphs start c.glyph.result invariant.some (omega arith)) c.if-rest-eq0.false) ∙ invariant.text;
    }
