-- What holds of the files that the words of a command name.
use Rattle.std.proofs.Common.{◌≡◌, List, ℕ, Ok, sym, subst}
use Rattle.hsm_program.specs.Words.{Asked, ReadsWords, asked, word_at}
use Rattle.hsm_program.specs.Runs.{OfCheck, OfScript}
use Rattle.hsm_program.specs.declared.command.Command.{Command}
use Rattle.hsm_program.specs.declared.command.Command.TheVariants.{Script, Check}

pub of_script : (words : List (List ℕ)) (command : Command) (config file : ℕ) (P : List ℕ → List ℕ → Type 0) → command ≡ Script config file
    → ReadsWords words (Ok command) → P (word_at words config) (word_at words file) → OfScript (asked words) P
of_script words command config file P is reads holds =
    let read = subst (λ (c : Command). ReadsWords words (Ok c)) is reads in
    subst (λ (a : Asked). OfScript a P) (sym read.3) holds

pub of_check : (words : List (List ℕ)) (command : Command) (config : ℕ) (P : List ℕ → Type 0) → command ≡ Check config
    → ReadsWords words (Ok command) → P (word_at words config) → OfCheck (asked words) P
of_check words command config P is reads holds =
    let read = subst (λ (c : Command). ReadsWords words (Ok c)) is reads in
    subst (λ (a : Asked). OfCheck a P) (sym read.2) holds
