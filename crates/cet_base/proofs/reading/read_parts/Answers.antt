use Rattle.std.proofs.Common.{◌≡◌, length, vec_len, refl, ◌∙◌, arith}
use Rattle.cet_base.proofs.ReadLemmas.{Begins-nothing, Begins-longer, Begins-ends, Begins-shorter}
use Rattle.cet_base.proofs.reading.read_parts.Goals as goal

pub parts-init : goal.parts-init
parts-init g c = record {
  same = refl;
  count = omega arith;
  bound = omega arith;
  begins = Begins-nothing _ _ _ c.new-bytes.ensures.items;
}

pub parts-preserved : goal.parts-preserved
parts-preserved g c = record {
  same = c.read_part.ensures.contents ∙ c.parts.invariant.same;
  count = omega arith;
  bound = omega (arith, c.in_ok-read_part.ensures.count, c.in_ok-read_part.ensures.limit);
  begins =
      Begins-longer _ _ _ _ _ _ c.parts.bytes.ok.0 c.parts.invariant.begins (rw c.parts.invariant.same at c.in_ok-read_part.ensures.added);
}

pub returns-then-branch-eq0-clause-whole : goal.returns-then-branch-eq0-clause-whole
returns-then-branch-eq0-clause-whole g c =
    let added = rw c.parts.invariant.same at c.in_ok-read_part.ensures.added in
    let some = rw c.parts.invariant.same at c.in_ok-read_part.ensures.some in
    let place : vec_len c.parts.bytes ≡ length c.read_part.new.bytes.items = omega (arith, c.in_ok-read_part.ensures.count, c.read_part.new.bytes.ok.0) in
    Begins-ends _ _ _ _ _ place c.if-branch-eq0.true (Begins-longer _ _ _ _ _ _ c.parts.bytes.ok.0 c.parts.invariant.begins added) some

pub returns-clause-too_large : goal.returns-clause-too_large
returns-clause-too_large g c = λ _. Begins-shorter _ _ _ _ c.parts.invariant.begins (omega (arith, c.parts.bytes.ok.0))
