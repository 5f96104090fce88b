use Rattle.std.proofs.Common.{sym}
use Rattle.att_table.proofs.ServiceBefore.{service_used}
use Rattle.att_table.proofs.changer.is_changer.Goals as goal

pub declares_generic_attribute-requires : goal.declares_generic_attribute-requires
declares_generic_attribute-requires c = service_used c.args.attributes.now c.args.values.now _ c.in-Some.service.now c.requires (sym c.in-Some.ensures)
