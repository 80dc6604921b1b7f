use Rattle.std.proofs.Common.{sym, ap, ◌∙◌}
use Rattle.std.proofs.lemmas.Map.Text.{hash_map_updates_str}
use Rattle.cet_link.specs.Known.{met_of, counting}
use Rattle.cet_link.proofs.NameLemmas.{Meets-local, Meets-put}
use Rattle.cet_link.proofs.names.Names.meet.Goals as goal

pub returns-then-is_local : goal.returns-then-is_local
returns-then-is_local c = Meets-local c.args.self.now (met_of c.args.met) (sym c.if-is_local.ensures)

pub returns : goal.returns
returns c =
    Meets-put c.args.self.now (record { known = c.insert.new.self }) c.as_slice-name.result c.counting-known.result (met_of c.args.met) (sym c.if-is_local.ensures) c.as_slice-name.ensures
    (hash_map_updates_str c.as_slice-name.result.now c.args.self.now.known c.insert.new.self _ c.in_ok-insert.ensures.updates)
    c.in_ok-insert.ensures.entries
    (c.counting-known.ensures ∙ ap (λ d. counting d (met_of c.args.met)) c.definition.ensures)
