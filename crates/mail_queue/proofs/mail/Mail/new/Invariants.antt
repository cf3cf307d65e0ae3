use Rattle.mail_queue.proofs.mail.Mail.new.Given as goal

abbrev pub ghosts-found : goal.ghosts-found
ghosts-found g a = record { posters = a.posters; takers = a.takers }
