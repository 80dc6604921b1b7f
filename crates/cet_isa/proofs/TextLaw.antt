-- The law of `TextLaw`: regular values are read from their texts.
use Rattle.std.proofs.Common.{sym, ap, ◌∙◌}
use Rattle.cet_isa.specs.TextLaw.{OneText}
use Rattle.cet_isa.proofs.TextWords.{one_sentence}
use Rattle.cet_isa.proofs.TextSentences.{sentence, text_is, instruction, instruction_again}
use Rattle.cet_isa.proofs.RegularRows.{form_is_regular}

pub one_text : OneText
one_text i j a b f g e =
    let same = one_sentence (sentence i) (sentence j) (form_is_regular i a f) (form_is_regular j b g) (sym (text_is i) ∙ e ∙ text_is j) in
    sym (instruction_again i) ∙ ap instruction same ∙ instruction_again j
