use Rattle.std.proofs.Common.{◌++◌, ◌∙◌, ap, sym, [], get_or, take}
use Rattle.std.specs.List.{flat_map}
use Rattle.std.specs.Int.{w64, cast_signed}
use Rattle.std.proofs.lemmas.List.{flat_map_more, take_more}
use Rattle.std.proofs.lemmas.List.Elements.{All-more}
use Rattle.cet_elf.specs.declared.object.Rela.{Rela}
use Rattle.cet_elf.specs.Regular.{RelaFits}
use Rattle.cet_elf.specs.Written.{rela_bytes}
use Rattle.cet_elf.proofs.tables.rela_table.Goals as goal

-- what is read past the end
nothing : Rela
nothing = record { offset = 0; kind = 0; symbol = 0; addend = cast_signed w64 0 }

pub loop-rela-preserved : goal.loop-rela-preserved
unfolding nothing
loop-rela-preserved c =
    let xs = c.args.relocations.now in
    let i = c.loop-rela.rela-index in
    record {
      table = c.in_ok-put_rela.ensures.table ∙ ap (λ t. t ++ rela_bytes (get_or xs i nothing)) c.loop-rela.invariant.table
          ∙ flat_map_more rela_bytes [] (take i xs) (get_or xs i nothing) ∙ ap (flat_map rela_bytes) (sym (take_more xs i nothing c.loop-rela-test.true));
      fit = All-more RelaFits xs i nothing c.loop-rela-test.true c.loop-rela.invariant.fit c.in_ok-put_rela.ensures.fits;
    }
