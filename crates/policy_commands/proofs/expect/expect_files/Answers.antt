use Rattle.std.proofs.Common.{◌≡◌, ◌++◌, List, Ok, ap, subst, sym, ◌∙◌}
use Rattle.std.specs.Prelude.{IfSome, length}
use Rattle.std.specs.Io.KnownBytes.{Appends}
use Rattle.policy_expectations.specs.Differences.{differences_of}
use Rattle.policy_expectations.specs.File.{expectations_in}
use Rattle.policy_expectations.specs.Report.{report_text}
use Rattle.policy_expectations.specs.declared.expectation.Expectation.{Expectation}
use Rattle.octet_io.specs.Number.{Octets}
use Rattle.policy_commands.proofs.expect.expect_files.Goals as goal

pub returns-clause-compared : goal.returns-clause-compared
returns-clause-compared g c =
    let report = report_text c.in_ok-table.table.attributes c.in_ok-keys.keys (length c.deref.result.now)
    (differences_of c.in_ok-table.table c.deref.result.now) in
    record {
      table = c.in_ok-table.table;
      has_table = c.in_ok-table.ensures.table;
      keys = c.in_ok-keys.keys;
      has_keys = c.in_ok-keys.ensures.keys;
      expectations = c.deref.result.now;
      has_expectations =
          subst (λ (items : List Expectation). IfSome (g.E.Read.remaining c.args.expectations.now) (λ octets. expectations_in octets ≡ Ok items))
          (sym c.deref.ensures.value) c.in_ok-expectations.ensures.read;
      is_same = c.in_ok-holds.ensures.holds;
      all_hold = c.in_ok-holds.ensures.all_hold;
      printed =
          subst (Appends (g.W.Write.contents c.args.writer.now) (g.W.Write.contents c.print.new.writer))
          (c.as_slice.ensures.value ∙ c.in_ok-holds.ensures.text ∙ ap (λ (old : Octets). old ++ report) c.new-text.ensures.items)
          c.in_ok-print.ensures.ok;
    }
