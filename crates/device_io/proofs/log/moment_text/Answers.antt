use Rattle.std.proofs.Common.{Bool, ℕ, Option, Some, false, ◌≡◌, ◌++◌, ap, ◌∙◌}
use Rattle.jiff_core.specs.declared.timestamp.Timestamp.{Timestamp}
use Rattle.jiff_fmt.specs.Printer.{options}
use Rattle.jiff_fmt.specs.Text.{datetime_text, zulu_text}
use Rattle.device_io.proofs.log.moment_text.Goals as goal

pub returns : goal.returns
returns c =
    let milliseconds : options c.precision.result ≡ (false, 84, Some 3) =
    c.precision.ensures ∙ ap (λ (option : Bool × ℕ × Option ℕ). (option.0, option.1, Some 3)) c.new.ensures in (
      c.timestamp_text.ensures.0,
      c.timestamp_text.ensures.1 ∙ ap (λ (time : Timestamp). time.nanosecond) c.to_plain.ensures,
      c.timestamp_text.ensures.2
          ∙ ap (λ (option : Bool × ℕ × Option ℕ). datetime_text option.0 option.1 option.2 c.timestamp_text.ensures.0 ++ zulu_text option.0)
          milliseconds,
    )
