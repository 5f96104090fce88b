-- The lines of replies (this profile's own).
use Rattle.std.specs.Prelude.{◌++◌, [], ◌∷◌, codes}
use Rattle.std.specs.Fmt.{decimal}
use Rattle.app_lines.specs.NoticeText.{value_text}
use Rattle.host_api.specs.Refusals.{number_of_refusal}
use Rattle.octet_io.specs.Number.{Octets}
use Rattle.app_lines.specs.declared.reply.Reply.{Reply}
use Rattle.app_lines.specs.declared.reply.Reply.TheVariants.{Done, Refused, NotSaved, NotReloaded, Value, Handle, Bad}

abbrev pub reply_text : Reply → Octets
reply_text Done = codes "ok"
reply_text (Refused fault words) =
    codes "fault" ++ 32 ∷ decimal (number_of_refusal fault) ++ codes ": " ++ words.now
reply_text (NotSaved words) = codes "fault 8: " ++ words.now
reply_text (NotReloaded words) = codes "fault 9: " ++ words.now
reply_text (Value handle value) = codes "value" ++ 32 ∷ decimal handle ++ 32 ∷ value_text value.now
reply_text (Handle handle) = codes "handle" ++ 32 ∷ decimal handle
reply_text (Bad words) = codes "bad: " ++ words.now

unfoldable pub reply_line : Reply → Octets
reply_line reply = reply_text reply ++ 10 ∷ []
