use Rattle.std.proofs.Common.{rules, ◌≡◌, ◌+◌, ◌<◌, ◌∷◌, ◌++◌, [], ℕ, List, length, take, sym, subst, ◌∙◌, arith}
use Rattle.std.proofs.lemmas.Result.{err_from_is_err_and}
use Rattle.cet_verbs.specs.Named.{names_of}
use Rattle.cet_verbs.specs.Held.{HoldsBytes}
use Rattle.cet_verbs.specs.Notes.{AllBoth, items_of}
use Rattle.cet_verbs.proofs.NameLemmas.{name_at, length-names_of}
use Rattle.cet_verbs.proofs.Pairs.{AllBoth-more, items_of-push}
use Rattle.cet_verbs.proofs.StepLemmas.{read_refused}
use Rattle.cet_verbs.proofs.reading.read_files.Goals as goal

pub returns-in_err-bytes-clause-refused : goal.returns-in_err-bytes-clause-refused
returns-in_err-bytes-clause-refused g c =
    let p = err_from_is_err_and c.from_residual.result c.from_residual.ensures.1 in
    let names = c.args.names.now in
    let i = c.loop-name.name-index in
    let below : i < length (names_of names) = omega (arith, length-names_of names) in
    let refused = rw c.loop-name.invariant.same at c.in_err-bytes.ensures.refused in
    rw (p.1, p.2)
    (λ command same. read_refused (g.F.Files.contents c.args.files.now) (g.F.Files.faults c.args.files.now) (g.F.Files.faults c.loop-name.files) (g.F.Files.faults c.read_file.new.files) command (names_of names) (items_of c.loop-name.held.items) i _ c.in_err-bytes.field-0.0 same below (name_at names i _ _ c.loop-name-test.true) c.loop-name.invariant.holds c.loop-name.invariant.count (refused command))

pub loop-name-preserved : goal.loop-name-preserved
loop-name-preserved g c =
    let names = c.args.names.now in
    let i = c.loop-name.name-index in
    let told = g.F.Files.contents c.args.files.now in
    let below : i < length (names_of names) = omega (arith, length-names_of names) in
    let pushed : c.push.new.self.items ≡ c.loop-name.held.items ++ c.in_ok-bytes.bytes ∷ [] = search rules in
    let holds = rw c.loop-name.invariant.same at c.in_ok-bytes.ensures.held in
    record {
      same = c.read_file.ensures.contents ∙ c.loop-name.invariant.same;
      count = omega arith;
      holds =
          subst (λ (bs : List (List ℕ)). AllBoth (HoldsBytes told) (take (i + 1) (names_of names)) bs) (sym (items_of-push c.loop-name.held.items c.push.new.self.items c.in_ok-bytes.bytes pushed))
          (AllBoth-more (HoldsBytes told) (names_of names) (items_of c.loop-name.held.items) i _ c.in_ok-bytes.bytes.items below (sym (name_at names i _ _ c.loop-name-test.true)) c.loop-name.invariant.holds holds);
    }
