-- Of two sessions that cross, the one that commits is run alone by one thread from the LOAD rows, and leaves the final tables.
use Rattle.run_record.proofs.CrossedSessions.{kept, script}
use Rattle.run_record.specs.Serial.{Serial, StampOrder}
use Rattle.record_laws.proofs.CrossedLegal.{crossed_legal}
use Rattle.serial_passes.proofs.FirmScripts.{AreFirm, all_firm}
use Rattle.serial_passes.proofs.Ordered.{firm_is_one_thread}
use Rattle.serial_passes.proofs.Serially.{legal_is_serial}

-- every update is under REPEATABLE access
crossed_firm : AreFirm script
crossed_firm = (((tt, (tt, tt)), tt), (((tt, (tt, tt)), tt), tt))

crossed_serial : Serial script kept
crossed_serial = legal_is_serial script kept crossed_legal

crossed_in_order : StampOrder script kept
crossed_in_order = firm_is_one_thread script kept crossed_legal (all_firm script kept crossed_firm)
