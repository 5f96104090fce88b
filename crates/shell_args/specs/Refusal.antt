-- The reaction to words that choose no command.
use Rattle.std.specs.Prelude.{◌≡◌, ◌⊎◌}
use Rattle.clap.specs.Words.{kind_of}
use Rattle.clap.specs.declared.error.Error.{Error}
use Rattle.clap.specs.declared.error.kind.ErrorKind.{ErrorKind}
use Rattle.clap.specs.declared.error.kind.ErrorKind.TheVariants.{DisplayHelp, DisplayVersion, OutOfMemory}
use Rattle.shell_args.specs.declared.words.Refusal.{Refusal}
use Rattle.shell_args.specs.declared.words.Refusal.TheVariants.{Shown, Misunderstood, Memory}

-- The refusal for a parser's error of this kind: only help and version show their text.
abbrev pub refusal_for : Error → ErrorKind → Refusal
refusal_for error DisplayHelp = Shown error
refusal_for error DisplayVersion = Shown error
refusal_for error OutOfMemory = Memory
refusal_for error _ = Misunderstood

-- The refusal shows a text of this kind, unless memory was refused.
abbrev pub ShowsUnlessMemory : ErrorKind → Refusal → Type 0
ShowsUnlessMemory kind refusal =
    (refusal ≡ Memory) ⊎ ((text : Error) × ((refusal ≡ Shown text) × (kind_of text ≡ kind)))
