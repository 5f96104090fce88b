-- The answer that `may` prints.
use Rattle.std.specs.Prelude.{◌≡◌, ℕ, ◌^◌, Bool, List, Option, Some, None, Result, Ok, Err, IfSome}
use Rattle.std.specs.Io.KnownBytes.{Appends}
use Rattle.octet_io.specs.Number.{Octets}
use Rattle.att_table.specs.Table.{Contents}
use Rattle.le_security.specs.declared.entry.Entry.{Entry}
use Rattle.le_hci.specs.declared.peer.Peer.{Peer}
use Rattle.le_security.specs.declared.key_fault.KeyFault.{KeyFault}
use Rattle.text_words.specs.Numeral.{numeral_of}
use Rattle.policy_rights.specs.declared.rights.Right.{Right}
use Rattle.shell_files.specs.Fault.{IsTableOrKeysFault}
use Rattle.shell_files.specs.KeyFile.{keys_in}
use Rattle.shell_files.specs.TableFile.{table_in}
use Rattle.policy_words.specs.may.Answer.{answer_text, is_granted}
use Rattle.policy_words.specs.declared.may.Question.{Question}
use Rattle.policy_commands.specs.MayWords.{peer_named, right_of}
use Rattle.policy_commands.specs.declared.may.MayFault.{MayFault}
use Rattle.policy_commands.specs.declared.may.MayFault.TheVariants.{File, Word}
use Rattle.policy_commands.specs.declared.may.MayWords.{MayWords}
use Rattle.policy_commands.specs.declared.may_words.Wrong.{Wrong}

-- The first wrong word is refused: the right, the handle or the peer.
abbrev pub question_if_right : MayWords → Option Right → Option ℕ → Result (Option Peer) Wrong
    → Result Question Wrong
question_if_right words None handle peer = Err Wrong.Right
question_if_right words (Some right) None peer = Err Wrong.Handle
question_if_right words (Some right) (Some handle) (Err wrong) = Err wrong
question_if_right words (Some right) (Some handle) (Ok peer) = Ok (record {
  peer = peer;
  right = right;
  handle = handle;
  is_authorized = words.authorized;
  is_unencrypted = words.unencrypted;
})

-- The question that the words ask, if these keys are known.
abbrev pub question_of_words : MayWords → List Entry → Result Question Wrong
question_of_words words keys =
    question_if_right words (right_of words.right.now) (numeral_of (2 ^ 16) words.handle.now)
    (peer_named keys words.peer.now)

-- With the keys of the file, if it is accepted, this word is wrong.
abbrev pub WordIsRefusedAs : MayWords → Wrong → Result (List Entry) KeyFault → Type 0
WordIsRefusedAs words wrong (Ok keys) = question_of_words words keys ≡ Err wrong
WordIsRefusedAs words wrong (Err fault) = ⊥

-- Both files, if known, are accepted; the answer is printed, and is yes if a link has the right.
pub record IsMayAnswer (words : MayWords) (table_file key_file held holds : Option Octets)
    (granted : Bool) : Type 0 where
  pub table : Contents
  pub has_table : IfSome table_file (λ octets. table_in octets ≡ Ok table)
  pub keys : List Entry
  pub has_keys : IfSome key_file (λ octets. keys_in octets ≡ Ok keys)
  pub question : Question
  pub asked : question_of_words words keys ≡ Ok question
  pub printed : Appends held holds (answer_text table.attributes keys question)
  pub status : granted ≡ is_granted table.attributes keys question

abbrev pub IsMayFault : MayFault → Type 0
IsMayFault (File fault) = IsTableOrKeysFault fault
IsMayFault (Word wrong) = Unit {0}
