use Rattle.std.proofs.Common.{◌+◌, cond, is_some, ap, sym, ◌∙◌}
use Rattle.std.specs.HashMap.{hash_map_len}
use Rattle.std.proofs.lemmas.Map.Text.{hash_map_updates_str}
use Rattle.cet_asm.proofs.Known.{MeetsNames-put, MeetsNames-again}
use Rattle.cet_asm.proofs.names.Names.meet.Goals as goal

pub returns-then-contains_key : goal.returns-then-contains_key
returns-then-contains_key c = MeetsNames-again c.args.self.now c.args.name.now (sym c.if-contains_key.ensures)

pub returns : goal.returns
returns c =
    MeetsNames-put c.args.self.now (record { known = c.insert.new.self }) c.args.name.now (sym c.if-contains_key.ensures)
    (hash_map_updates_str c.args.name.now c.args.self.now.known c.insert.new.self _ c.in_ok-insert.ensures.updates)
    (c.in_ok-insert.ensures.len ∙ ap (λ o. hash_map_len c.args.self.now.known + cond (is_some o) 0 1) c.in_ok-insert.ensures.old)
