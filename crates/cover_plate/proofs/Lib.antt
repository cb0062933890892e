mod Steel
