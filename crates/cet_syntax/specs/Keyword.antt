-- The words of statements: of instructions, directives and sites.
use Rattle.std.specs.Prelude.{ℕ, if◌then◌else◌, List, Option, Some, None, option_and_then, codes}
use Rattle.std.specs.Option.{option_map, option_or}
use Rattle.std.specs.Str.{bytes_eq}
use Rattle.cet_syntax.specs.declared.keyword.DirectiveWord.{DirectiveWord}
use Rattle.cet_syntax.specs.declared.keyword.DirectiveWord.TheVariants as dword
use Rattle.cet_syntax.specs.declared.keyword.SiteWord.{SiteWord}
use Rattle.cet_syntax.specs.declared.keyword.SiteWord.TheVariants as sword
use Rattle.cet_syntax.specs.declared.keyword.Keyword.{Keyword}
use Rattle.cet_syntax.specs.declared.keyword.Keyword.TheVariants as keyword
use Rattle.cet_syntax.specs.Pieces.{first_word, behind_first_word}
use Rattle.cet_syntax.specs.Word.{word_of, with_lock, with_notrack}

abbrev pub directive_word : List ℕ → Option DirectiveWord
directive_word name =
    if bytes_eq name (codes ".section") then Some dword.Section else
    if bytes_eq name (codes ".func") then Some dword.Func else
    if bytes_eq name (codes ".end") then Some dword.End else
    if bytes_eq name (codes ".object") then Some dword.Object else
    if bytes_eq name (codes ".global") then Some dword.Global else
    if bytes_eq name (codes ".word") then Some dword.Word else
    if bytes_eq name (codes ".byte") then Some dword.Byte else
    if bytes_eq name (codes ".zero") then Some dword.Zero else
    if bytes_eq name (codes ".align") then Some dword.Align else
    if bytes_eq name (codes ".off") then Some dword.Off else
    if bytes_eq name (codes ".note") then Some dword.Note else None

abbrev pub site_word : List ℕ → Option SiteWord
site_word name =
    if bytes_eq name (codes "land") then Some sword.Land else
    if bytes_eq name (codes "release") then Some sword.Release else
    if bytes_eq name (codes "throw") then Some sword.Throw else
    if bytes_eq name (codes "switch") then Some sword.Switch else
    if bytes_eq name (codes "fibermake") then Some sword.FiberMake else
    if bytes_eq name (codes "spawn") then Some sword.Spawn else
    if bytes_eq name (codes "action") then Some sword.Action else
    if bytes_eq name (codes "read") then Some sword.Read else None

-- a statement, cut behind its word
pub record Headed : Type 0 where
  pub keyword : Keyword
  pub rest : List ℕ

abbrev pub headed : (List ℕ → Option Keyword) → List ℕ → Option Headed
headed read cs = option_map (λ k. record { keyword = k; rest = behind_first_word cs }) (read (first_word cs))

abbrev pub plain_keyword : List ℕ → Option Keyword
plain_keyword name =
    option_or (option_map keyword.Instruction (word_of name)) (option_or (option_map keyword.Directive (directive_word name)) (option_map keyword.Site (site_word name)))

abbrev pub locked_keyword : List ℕ → Option Keyword
locked_keyword name = option_map keyword.Instruction (option_and_then with_lock (word_of name))

abbrev pub untracked_keyword : List ℕ → Option Keyword
untracked_keyword name = option_map keyword.Instruction (option_and_then with_notrack (word_of name))

-- behind `lock` and `notrack` stands the word of an instruction that takes it
abbrev pub headed_by : List ℕ → Option Headed
headed_by cs =
    let word = first_word cs in
    if bytes_eq word (codes "lock") then headed locked_keyword (behind_first_word cs) else
    if bytes_eq word (codes "notrack") then headed untracked_keyword (behind_first_word cs) else
    headed plain_keyword cs
