use Rattle.std.proofs.Common.{List, ℕ, ◌++◌, codes, subst}
use Rattle.std.proofs.lemmas.Result.{MatchResult-from_err, on_ok_weaker, on_err_weaker}
use Rattle.cet_base.specs.Sink.{Gains, GainsPart}
use Rattle.cet_base.specs.Text.{line}
use Rattle.cet_base.proofs.SinkLemmas.{Gains-then}
use Rattle.cet_run.specs.Text.{counts, bytes_text, end_text}
use Rattle.cet_run.proofs.Gained.{part_first, part_second}
use Rattle.cet_run.proofs.writing.write_run.Goals as goal

pub returns-in_err-write_counts-clause-part : goal.returns-in_err-write_counts-clause-part
returns-in_err-write_counts-clause-part g c =
    let first : List ℕ = line (counts c.args.report.now.events) in
    let second : List ℕ = line (codes "output " ++ bytes_text c.args.report.now.output) in
    let third : List ℕ = line (end_text c.args.report.now.last) in
    MatchResult-from_err _ _ _ c.from_residual.ensures.0
    (λ _. part_first _ _ (first ++ second) third (part_first _ _ first second c.in_err-write_counts.ensures.part))

pub returns-in_err-write_output-clause-part : goal.returns-in_err-write_output-clause-part
returns-in_err-write_output-clause-part g c =
    let first : List ℕ = line (counts c.args.report.now.events) in
    let second : List ℕ = line (codes "output " ++ bytes_text c.args.report.now.output) in
    let third : List ℕ = line (end_text c.args.report.now.last) in
    let part = subst (λ (x : List ℕ). GainsPart (g.O.Sink.bytes c.write_counts.new.out) (g.O.Sink.bytes c.write_output.new.out) (line (codes "output " ++ bytes_text x))) c.as_slice.ensures c.in_err-write_output.ensures.part in
    MatchResult-from_err _ _ _ c.from_residual-in_err-write_output.ensures.0
    (λ _. part_first _ _ (first ++ second) third (part_second _ _ _ first second c.in_ok-write_counts.ensures.taken part))

pub returns-clause-taken : goal.returns-clause-taken
returns-clause-taken g c =
    let first : List ℕ = line (counts c.args.report.now.events) in
    let second : List ℕ = line (codes "output " ++ bytes_text c.args.report.now.output) in
    let third : List ℕ = line (end_text c.args.report.now.last) in
    let middle = subst (λ (x : List ℕ). Gains (g.O.Sink.bytes c.write_counts.new.out) (g.O.Sink.bytes c.write_output.new.out) (line (codes "output " ++ bytes_text x))) c.as_slice.ensures c.in_ok-write_output.ensures.taken in
    on_ok_weaker c.write_end.result
    (λ gains. Gains-then _ _ _ (first ++ second) third (Gains-then _ _ _ first second c.in_ok-write_counts.ensures.taken middle) gains) c.write_end.ensures.taken

pub returns-clause-part : goal.returns-clause-part
returns-clause-part g c =
    let first : List ℕ = line (counts c.args.report.now.events) in
    let second : List ℕ = line (codes "output " ++ bytes_text c.args.report.now.output) in
    let third : List ℕ = line (end_text c.args.report.now.last) in
    let middle = subst (λ (x : List ℕ). Gains (g.O.Sink.bytes c.write_counts.new.out) (g.O.Sink.bytes c.write_output.new.out) (line (codes "output " ++ bytes_text x))) c.as_slice.ensures c.in_ok-write_output.ensures.taken in
    on_err_weaker c.write_end.result
    (λ part. part_second _ _ _ (first ++ second) third (Gains-then _ _ _ first second c.in_ok-write_counts.ensures.taken middle) part) c.write_end.ensures.part
