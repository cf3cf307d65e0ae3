-- What a derived clone ensures of a request's copy makes it the request. Functions that copy one name this lemma for `search`.
use Rattle.std.proofs.Common.{rules, ◌≡◌}
use Rattle.std.proofs.lemmas.List.Elements.{same_from_all_zip}
use Rattle.dp_messages.specs.contracts.requests.AskClone.TheImpl.{by_variants}
use Rattle.dp_messages.specs.declared.requests.Ask.{Ask}
use Rattle.dp_messages.specs.declared.requests.Ask.TheVariants.{BeginRead, BeginUpdate, BeginDelete, Continue, ReadKey, Insert, LockGranule, Prepare, EndCommit, EndUndo}

pub same_ask : (ask copy : Ask) → by_variants ask copy → copy ≡ ask
same_ask (BeginRead access granule range predicate columns) copy h = search (rules, same_from_all_zip)
same_ask (BeginUpdate access granule range predicate sets) copy h = search (rules, same_from_all_zip)
same_ask (BeginDelete access granule range predicate) copy h = search (rules, same_from_all_zip)
same_ask (Continue subset last) copy h = search (rules, same_from_all_zip)
same_ask (ReadKey access key predicate columns) copy h = search (rules, same_from_all_zip)
same_ask (Insert row) copy h = search (rules, same_from_all_zip)
same_ask (LockGranule prefix mode) copy h = search (rules, same_from_all_zip)
same_ask Prepare copy h = search (rules, same_from_all_zip)
same_ask (EndCommit stamp) copy h = search (rules, same_from_all_zip)
same_ask EndUndo copy h = search (rules, same_from_all_zip)
